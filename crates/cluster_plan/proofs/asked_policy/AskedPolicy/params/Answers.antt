-- Proof obligations of `asked_policy::AskedPolicy::params`.
use Rattle.cluster_plan.proofs.Prelude.{◌∙◌, All, IsNumbered, Some, ap, map, state_view, subst, sym}
use Rattle.cluster_plan.proofs.Bound.{given_numbered, given_params}
use Rattle.cluster_plan.proofs.asked_policy.AskedPolicy.params.Goals as goal

pub returns-in_ok-each_given-in-Some-param_ref-clause-found : goal.returns-in_ok-each_given-in-Some-param_ref-clause-found
returns-in_ok-each_given-in-Some-param_ref-clause-found c =
    rw (c.in-Some.is, c.in-Some-param_ref.is)
    (given_params _ _ _ c.in_ok-params-in-Some-param_ref.ensures.value (c.in_ok-each_given-in-Some-param_ref.ensures ∙ ap (map Some) c.as_slice.ensures.value))

pub returns-in_ok-each_given-in-Some-param_ref-clause-numbered : goal.returns-in_ok-each_given-in-Some-param_ref-clause-numbered
returns-in_ok-each_given-in-Some-param_ref-clause-numbered c =
    given_numbered (state_view c.args.state.now).items _ _ c.in_ok-params-in-Some-param_ref.ensures.numbered
    (c.in_ok-each_given-in-Some-param_ref.ensures ∙ ap (map Some) c.as_slice.ensures.value)
