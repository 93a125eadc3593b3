-- Proofs of `reading::policy_names`: the loop invariant holds at first and is kept.

use Rattle.cluster_state.proofs.Prelude.{arith}
use Rattle.cluster_state.proofs.Named.{names_more, names_none}
use Rattle.cluster_state.proofs.reading.policy_names.Goals as goal

pub loop-binding-init : goal.loop-binding-init
loop-binding-init c = names_none _ c.new-names.ensures.empty

pub loop-binding-preserved : goal.loop-binding-preserved
loop-binding-preserved c = grind (arith, names_more)
