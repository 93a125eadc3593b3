-- Loop invariant of `emitter::slots_of`.

use Rattle.codegen.proofs.Prelude.{◌≡◌, ◌++◌, drop, slots}
use Rattle.codegen.proofs.emitter.slots_of.Given as goal

abbrev pub invariant-loop-insn : goal.invariant-loop-insn
invariant-loop-insn l = slots l.piece ≡ l.begins.items ++ slots (drop l.insn-index l.piece)
