-- Loop invariant of `escaping::added`.

use Rattle.verdicts.proofs.Escapes.{IsAdded}
use Rattle.verdicts.proofs.escaping.added.Given as goal

abbrev pub invariant-loop-byte : goal.invariant-loop-byte
invariant-loop-byte l = IsAdded l.text l.byte-index l.more
