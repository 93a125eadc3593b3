-- Loop invariant of `emitter::spelled`.

use Rattle.codegen.proofs.Prelude.{◌≡◌, ◌++◌, drop, slot_spellings}
use Rattle.codegen.proofs.emitter.spelled.Given as goal

abbrev pub invariant-loop-begins : goal.invariant-loop-begins
invariant-loop-begins l = slot_spellings l.slots ≡ l.bytes.items ++ slot_spellings (drop l.begins-index l.slots)
