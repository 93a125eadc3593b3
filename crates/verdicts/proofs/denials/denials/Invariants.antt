-- Loop invariant of `denials::denials`.

use Rattle.verdicts.proofs.Prelude.{drop, map, denial_view, words_view, validation_view}
use Rattle.verdicts.proofs.Told.{DenialsGo}
use Rattle.verdicts.proofs.denials.denials.Given as goal

abbrev pub invariant-loop-i : goal.invariant-loop-i
invariant-loop-i l = DenialsGo l.failure_policy (map validation_view l.validations) (map validation_view (drop l.i l.validations)) (words_view l.verdict) l.i (map denial_view l.denials.items)
