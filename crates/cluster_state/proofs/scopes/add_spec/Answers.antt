-- Proof obligations of `scopes::add_spec`.
use Rattle.cluster_state.proofs.Prelude.{◌∙◌, ap, option_map, sym, view}
use Rattle.cluster_state.specs.Scopes.{is_served_kind, scope_at}
use Rattle.cluster_state.specs.Serving.{scope_of, serves_in}
use Rattle.cluster_state.proofs.Scoped.{or_unless, spec_added}
use Rattle.cluster_state.proofs.scopes.add_spec.Goals as goal

pub returns-in-None : goal.returns-in-None
returns-in-None c k =
    or_unless (serves_in k (option_map (λ v. view v.now) c.args.spec)) (scope_at c.args.scopes.now k) _ (sym (c.in-None.ensures k))

pub returns-in_ok-add_kind-in-Some : goal.returns-in_ok-add_kind-in-Some
returns-in_ok-add_kind-in-Some c k =
    spec_added k (option_map (λ v. view v.now) c.args.spec) (scope_at c.args.scopes.now k) _ (is_served_kind k c.in-Some.served) c.scope_of-scope.result (c.in-Some.ensures k)
    (c.scope_of-scope.ensures ∙ ap scope_of c.field_of.ensures) (c.in_ok-add_kind-in-Some.ensures k)
