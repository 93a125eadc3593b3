-- Loop invariants of `AnswerText::push_registers` (src/answer_text.rt).
use Rattle.debugger.proofs.Prelude.{◌≡◌, ◌≤◌, ◌*◌, length, register_lines}
use Rattle.debugger.proofs.answer_text.AnswerText.push_registers.Given as goal

abbrev pub invariant-loop-number : goal.invariant-loop-number
invariant-loop-number g l = record {
  text : l.self ≡ register_lines l.number (g.E.Emulator.state l.machine);
  length : length l.self ≤ 41 * l.number;
}
