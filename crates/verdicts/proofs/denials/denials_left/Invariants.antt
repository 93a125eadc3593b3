-- Loop invariant of `denials::denials_left`.

use Rattle.verdicts.proofs.Prelude.{◌+◌, drop, map, denial_view, first_message, first_result, text_named, validation_view, verdict_word}
use Rattle.verdicts.proofs.Left.{DenialsLeft}
use Rattle.verdicts.proofs.denials.denials_left.Given as goal

abbrev pub invariant-loop-i : goal.invariant-loop-i
invariant-loop-i g l =
    DenialsLeft l.failure_policy (map validation_view l.validations) (map validation_view (drop l.i l.validations))
    (λ i. verdict_word (g.M.Regions.bytes l.memory) (first_result + i))
    (λ i. text_named (g.V.ValueStore.values l.values) (verdict_word (g.M.Regions.bytes l.memory) (first_message + i))) l.i
    (map denial_view l.denials.items)
