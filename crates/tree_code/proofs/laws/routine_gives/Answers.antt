-- Proofs of `laws::routine_gives`: the result meets the contract.

use Rattle.tree_code.proofs.Layer.{routine_gives}
use Rattle.tree_code.proofs.laws.routine_gives.Goals as goal

pub returns : goal.returns
returns c = routine_gives
