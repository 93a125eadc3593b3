-- Proofs of `laws::excludes_have_no_order`: the result meets the contract.

use Rattle.admission_match.proofs.Orders.{excludes_have_no_order}
use Rattle.admission_match.proofs.laws.excludes_have_no_order.Goals as goal

pub returns : goal.returns
returns c = excludes_have_no_order
