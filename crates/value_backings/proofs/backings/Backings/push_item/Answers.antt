-- Proofs of `backings::Backings::push_item`: the result meets the contract.

use Rattle.value_backings.proofs.Backed.{lists_more}
use Rattle.value_backings.proofs.backings.Backings.push_item.Goals as goal

pub returns-clause-grown : goal.returns-clause-grown
returns-clause-grown c = lists_more c.args.self.now _ c.push_after.ensures.grown
