-- Proofs of `laws::rules_have_no_order`: the result meets the contract.

use Rattle.admission_match.proofs.Orders.{rules_have_no_order}
use Rattle.admission_match.proofs.laws.rules_have_no_order.Goals as goal

pub returns : goal.returns
returns c = rules_have_no_order
