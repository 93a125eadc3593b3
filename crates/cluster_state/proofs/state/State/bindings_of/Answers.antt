-- Proof obligations of `state::State::bindings_of`.
use Rattle.cluster_state.proofs.Prelude.{◌∙◌, IfOk-weaker, ap, binding_view, map}
use Rattle.cluster_state.proofs.Indexed.{bound_view, seen_view}
use Rattle.cluster_state.proofs.state.State.bindings_of.Goals as goal

pub returns : goal.returns
returns c =
    IfOk-weaker c.bound_to.result _ _
    (λ v are. seen_view v.items ∙ ap (map binding_view) are ∙ bound_view c.args.policy.now c.args.self.now.bindings)
    c.bound_to.ensures
