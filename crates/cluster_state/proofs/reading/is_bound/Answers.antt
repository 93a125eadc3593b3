-- Proofs of `reading::is_bound`: the result meets the contract.

use Rattle.cluster_state.proofs.Prelude.{◌∙◌}
use Rattle.cluster_state.proofs.Held.{bound_in_views}
use Rattle.cluster_state.proofs.reading.is_bound.Goals as goal

pub returns : goal.returns
returns c bs holds = c.contains.ensures ∙ holds (record { ref_ptr = (0, 0); now = c.args.name.now }) ∙ bound_in_views bs c.args.name.now
