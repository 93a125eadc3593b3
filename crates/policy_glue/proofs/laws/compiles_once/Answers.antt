-- Proofs of `laws::compiles_once`: the result meets the contract.

use Rattle.policy_glue.proofs.OneAnswer.{not_other}
use Rattle.policy_glue.proofs.laws.compiles_once.Goals as goal

pub returns-clause-of_type : goal.returns-clause-of_type
returns-clause-of_type c = not_other
