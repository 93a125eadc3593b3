-- Proofs of `laws::empty_selects_all`: the result meets the contract.

use Rattle.label_selectors.proofs.Relation.{empty_selects_all}
use Rattle.label_selectors.proofs.laws.empty_selects_all.Goals as goal

pub returns : goal.returns
returns c = empty_selects_all
