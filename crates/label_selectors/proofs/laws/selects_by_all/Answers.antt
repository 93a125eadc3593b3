-- Proofs of `laws::selects_by_all`: the result meets the contract.

use Rattle.label_selectors.proofs.Relation.{selects_by_all}
use Rattle.label_selectors.proofs.laws.selects_by_all.Goals as goal

pub returns : goal.returns
returns c = selects_by_all
