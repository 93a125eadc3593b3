-- Proofs of `refusing::write_label`: the result meets the contract.

use Rattle.policy_translation.proofs.Tokens.{adds_none}
use Rattle.gatekeeper_runner.proofs.refusing.write_label.Goals as goal

pub returns-in-None : goal.returns-in-None
returns-in-None c = rw c.in-None.is (adds_none _)
