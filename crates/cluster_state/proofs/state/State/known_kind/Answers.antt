-- Proof obligations of `state::State::known_kind`.
use Rattle.cluster_state.proofs.Prelude.{◌∙◌, ap, objects_view, param_kind_view}
use Rattle.cluster_state.specs.ShapedScopes.{kind_from}
use Rattle.cluster_state.proofs.Shaped.{kind_shown}
use Rattle.cluster_state.proofs.state.State.known_kind.Goals as goal

pub returns : goal.returns
returns c =
    c.kind_by.ensures ∙ ap (kind_from (param_kind_view c.args.kind.now) c.shape-shape.result) c.scope-defined.ensures
    ∙ kind_shown (param_kind_view c.args.kind.now) _ (objects_view c.args.self.now.objects.all) c.shape-shape.result c.shape-shape.ensures
