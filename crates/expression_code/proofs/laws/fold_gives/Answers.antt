-- Proofs of `laws::fold_gives`: the result meets the contract.

use Rattle.expression_code.proofs.Loops.{fold_gives}
use Rattle.expression_code.proofs.laws.fold_gives.Goals as goal

pub returns : goal.returns
returns c = fold_gives
