-- Loop invariants of `push_words` (src/verdict.rt).
use Rattle.debugger.proofs.Prelude.{◌≡◌, ◌++◌, string_bytes, word_lines}
use Rattle.debugger.proofs.verdict.push_words.Given as goal

abbrev pub invariant-loop-i : goal.invariant-loop-i
invariant-loop-i g l = record {
  text : string_bytes l.text ≡ string_bytes l.fn.text ++ word_lines l.name (g.M.Regions.bytes l.memory) l.from l.i;
}
