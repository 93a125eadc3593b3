-- Proofs of `policies::gatekeeper::Gatekeeper::decision`: the result meets the contract.

use Rattle.value_store.specs.Placing.{Contents}
use Rattle.value_table.specs.Held.{held_contents}
use Rattle.value_table.specs.declared.table.Table.{Table}
use Rattle.gatekeeper_runner.proofs.Prelude.{Global, String, IfOk-weaker, gatekeeper_of, refl}
use Rattle.gatekeeper_runner.proofs.OfPolicies.Gates.{are_values, refused_first}
use Rattle.gatekeeper_runner.proofs.OfPolicies.FailFirst.{hides_no_fail}
use Rattle.gatekeeper_runner.proofs.policies.gatekeeper.Gatekeeper.decision.Goals as goal

pub returns-in-Ok-clause-decides : goal.returns-in-Ok-clause-decides
returns-in-Ok-clause-decides c =
    IfOk-weaker c.decision_on.result _ _
    (λ r all policies are. all policies c.args.review.now are (are_values (gatekeeper_of policies c.args.self.now) c.args.review.now {S = Contents} (λ v. v) _ _ c.in-Ok.ensures.table c.in-Ok.ensures.uid))
    c.decision_on.ensures

pub returns-in-Ok-clause-hides_no_fail : goal.returns-in-Ok-clause-hides_no_fail
returns-in-Ok-clause-hides_no_fail c =
    IfOk-weaker c.decision_on.result _ _ (λ r all policies are. hides_no_fail _ _ _ (all policies are)) (returns-in-Ok-clause-decides c)

pub returns-in-Err-clause-decides : goal.returns-in-Err-clause-decides
returns-in-Err-clause-decides c =
    IfOk-weaker c.refused_first.result _ _
    (λ r h policies are. rw h.1 (refused_first (gatekeeper_of policies c.args.self.now) c.args.review.now {S = Table × String Global} (λ r. held_contents r.0) _ _ c.in-Err.ensures.table (rw c.from.ensures at h.0) (rw c.from.ensures refl)))
    c.refused_first.ensures

pub returns-in-Err-clause-hides_no_fail : goal.returns-in-Err-clause-hides_no_fail
returns-in-Err-clause-hides_no_fail c =
    IfOk-weaker c.refused_first.result _ _ (λ r all policies are. hides_no_fail _ _ _ (all policies are)) (returns-in-Err-clause-decides c)
