-- Loop invariant of `program::pieces::put_each`.

use Rattle.policy_code.proofs.Prelude.{◌≡◌, drop, with_piece}
use Rattle.policy_code.proofs.program.pieces.put_each.Given as goal

abbrev pub invariant-loop-insn : goal.invariant-loop-insn
invariant-loop-insn l = with_piece l.emitter (drop l.insn-index l.insns) ≡ with_piece l.fn.emitter l.insns
