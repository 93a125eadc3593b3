-- Proofs of `refusing::write_policy`: the result meets the contract.

use Rattle.gatekeeper_runner.proofs.Prelude.{on_ok_weaker}
use Rattle.policy_translation.proofs.Tokens.{adds_more}
use Rattle.gatekeeper_runner.proofs.refusing.write_policy.Goals as goal

pub returns : goal.returns
returns c =
    on_ok_weaker c.write_text-2.result
    (λ adds. adds_more (rw c.as_str.ensures.value at c.in_ok-write_text.ensures) (rw c.as_str-2.ensures.value at adds))
    c.write_text-2.ensures
