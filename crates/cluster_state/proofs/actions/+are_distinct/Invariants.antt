-- Termination measure of `actions::are_distinct`.

use Rattle.cluster_state.proofs.Prelude.{length}
use Rattle.cluster_state.proofs.actions.+are_distinct.Given as goal

abbrev pub decreases-are_distinct : goal.decreases-are_distinct
decreases-are_distinct l = length l.actions.now
