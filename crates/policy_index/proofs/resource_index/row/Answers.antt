-- Proof obligations of `resource_index::row`.
use Rattle.policy_index.proofs.Prelude.{◌∙◌, ◌++◌, ◌∷◌, [], ap}
use Rattle.policy_index.proofs.Marking.{row_more}
use Rattle.policy_index.proofs.resource_index.row.Goals as goal

pub loop-resources-preserved : goal.loop-resources-preserved
loop-resources-preserved c =
    row_more c.args.constraints.now c.args.resource.now c.loop-resources.resources-index c.resources-item.result
    c.loop-resources.row.items _ c.loop-resources-test.true c.resources-item.is
    c.loop-resources.invariant
    (c.in_ok-push.ensures.items ∙ ap (λ b. c.loop-resources.row.items ++ b ∷ []) c.may_match.ensures)
