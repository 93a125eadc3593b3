-- Proofs of `members::write_text`: the result meets the contract.

use Rattle.policy_translation.proofs.Tokens.{last, one}
use Rattle.policy_translation.proofs.members.write_text.Goals as goal

pub returns : goal.returns
returns c = last c.string.result (one c.in_ok-key.ensures) c.string.ensures
