-- Proof obligations of `scopes::scopes_of`.
use Rattle.cluster_state.proofs.Prelude.{◌∙◌, ap, named_view}
use Rattle.std.specs.Option.{option_or}
use Rattle.cluster_state.specs.Scopes.{scope_at, scope_by_spec}
use Rattle.cluster_state.proofs.Scoped.{scopes_begin, scopes_more}
use Rattle.cluster_state.proofs.scopes.scopes_of.Goals as goal

pub loop-name-init : goal.loop-name-init
loop-name-init c = scopes_begin c.new-scopes.result _ c.new-scopes.ensures.empty

pub loop-name-preserved : goal.loop-name-preserved
loop-name-preserved c =
    scopes_more c.loop-name.scopes c.add_spec.new.scopes _ _ _ _ _ c.loop-name.invariant (ap named_view c.in-Some.ensures.steps)
    (λ k. c.in_ok-add_spec.ensures k ∙ ap (λ s. option_or (scope_at c.loop-name.scopes k) (scope_by_spec k s)) c.field.ensures)
