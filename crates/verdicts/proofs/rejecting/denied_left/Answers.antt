-- Proofs of `rejecting::denied_left`: the result meets the contract.

use Rattle.verdicts.proofs.Prelude.{◌∙◌, List, ap, sym, IfOk-weaker, Denial}
use Rattle.verdicts.specs.Rejections.{denied}
use Rattle.verdicts.proofs.Left.{denials_are}
use Rattle.verdicts.proofs.rejecting.denied_left.Goals as goal

pub returns : goal.returns
returns g c v is layout =
    IfOk-weaker c.denied_by.result _ _
    (λ o here. here
    ∙ ap (λ (ds : List Denial). denied ds)
    (denials_are c.policy.inside.parts c.args.policy.now v (g.V.ValueStore.values c.args.values.now) (g.M.Regions.bytes c.args.memory.now)
    (sym c.policy.view_is) c.policy.invariant is layout)) c.denied_by.ensures
