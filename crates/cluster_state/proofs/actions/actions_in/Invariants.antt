-- Loop invariant of `actions::actions_in`.

use Rattle.cluster_state.proofs.Prelude.{drop, action_in, items_view}
use Rattle.json_fields.proofs.Items.{EachGo}
use Rattle.cluster_state.proofs.actions.actions_in.Given as goal

abbrev pub invariant-loop-item : goal.invariant-loop-item
invariant-loop-item l = EachGo action_in (items_view l.item-items) (items_view (drop l.item-index l.item-items)) l.actions.items
