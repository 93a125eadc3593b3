-- Proofs of `bound_policies::policy_parts`: the result meets the contract.

use Rattle.cluster_state.proofs.Prelude.{◌∙◌, ap, match_constraints_of, param_kind_of, sym}
use Rattle.cluster_state.proofs.Parts.{policy_refused, policy_whole}
use Rattle.cluster_state.proofs.bound_policies.policy_parts.Goals as goal

pub returns-in-Some : goal.returns-in-Some
returns-in-Some c =
    policy_whole _ _ _ _ _ (ap match_constraints_of (sym c.field.ensures) ∙ c.in_ok-constraints.ensures)
    (ap param_kind_of (sym c.field-2.ensures) ∙ sym c.in-Some.ensures)

pub returns-in-None : goal.returns-in-None
returns-in-None c =
    policy_refused _ _ _ _ (ap match_constraints_of (sym c.field.ensures) ∙ c.in_ok-constraints.ensures)
    (ap param_kind_of (sym c.field-2.ensures) ∙ sym c.in-None.ensures)
