-- Proofs of `laws::rows_stand`: the result meets the contract.

use Rattle.cel_measures.proofs.Prelude.{macro_named, is_map, is_has, is_variables, expanded, nodes, need, deepest}
use Rattle.cel_measures.proofs.laws.rows_stand.Goals as goal

pub returns : goal.returns
unfolding macro_named is_map is_has is_variables expanded nodes need deepest
returns c = search
