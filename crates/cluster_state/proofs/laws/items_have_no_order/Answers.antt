-- Proofs of `laws::items_have_no_order`: the result meets the contract.

use Rattle.cluster_state.proofs.Reordered.{items_have_no_order}
use Rattle.cluster_state.proofs.laws.items_have_no_order.Goals as goal

pub returns : goal.returns
returns c = items_have_no_order
