-- Proofs of `lists::Lists::push_after`: the result meets the contract.

use Rattle.shared_lists.proofs.Prelude.{[], ◌∷◌}
use Rattle.shared_lists.proofs.Pushed.{items_pushed}
use Rattle.shared_lists.proofs.lists.Lists.push_after.Goals as goal

pub returns-then-held-count-clause-grown : goal.returns-then-held-count-clause-grown
returns-then-held-count-clause-grown c = items_pushed c.args.self.now _ c.args.row (c.args.item ∷ []) c.in_ok-push_item.ensures.ok
