-- Loop invariant of `reading::policy_names`.

use Rattle.std.proofs.Common.{take}
use Rattle.cluster_state.specs.Names.{HoldsPolicyNames}
use Rattle.cluster_state.proofs.reading.policy_names.Given as goal

abbrev pub invariant-loop-binding : goal.invariant-loop-binding
invariant-loop-binding l = HoldsPolicyNames l.names (take l.binding-index l.bindings)
