-- Proofs of `policy_json::write_option`: the result meets the contract.

use Rattle.policy_translation.proofs.Tokens.{adds_none}
use Rattle.policy_translation.proofs.policy_json.write_option.Goals as goal

pub returns-in-None : goal.returns-in-None
returns-in-None c = rw c.in-None.is (adds_none _)
