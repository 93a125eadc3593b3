-- Proofs of `policies::translated`: the result meets the contract.

use Rattle.admission.proofs.Results.{is_err}
use Rattle.celbpf_page.proofs.policies.translated.Goals as goal

pub returns-in_err-policy : goal.returns-in_err-policy
returns-in_err-policy c = rw (is_err c.from_residual.ensures.1) c.in_err-policy.ensures

pub returns-in-Ok : goal.returns-in-Ok
returns-in-Ok c = (c.in_ok-policy.policy, c.in_ok-policy.ensures, c.in-Ok.ensures)
