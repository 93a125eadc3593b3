-- Proofs of `backings::Backings::join_items`: the result meets the contract.

use Rattle.shared_lists.proofs.Pushed.{items_pushed}
use Rattle.value_backings.proofs.Backed.{lists_more}
use Rattle.value_backings.proofs.backings.Backings.join_items.Goals as goal

pub returns-then-items-count-clause-grown : goal.returns-then-items-count-clause-grown
returns-then-items-count-clause-grown c = lists_more c.args.self.now _ (items_pushed _ _ c.args.first.0 _ c.in_ok-push_items.ensures.ok)
