-- Proofs of `laws::policy_decides`: the result meets the contract.

use Rattle.policy_code.proofs.Programs.Whole.{policy_decides}
use Rattle.policy_code.proofs.laws.policy_decides.Goals as goal

pub returns : goal.returns
returns c = policy_decides c.decodes_spelling.ensures
