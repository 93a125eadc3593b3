-- Proofs of `laws::variables_join`: the result meets the contract.

use Rattle.tree_code.proofs.Layer.{variable_is_taken, variable_joins}
use Rattle.tree_code.proofs.laws.variables_join.Goals as goal

pub returns : goal.returns
returns c = record { joins = variable_joins; taken = variable_is_taken }
