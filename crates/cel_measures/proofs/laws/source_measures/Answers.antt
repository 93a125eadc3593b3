-- Proofs of `laws::source_measures`: the result meets the contract.

use Rattle.cel_measures.proofs.SourceMeasures.{same_nodes, same_need, same_depth}
use Rattle.cel_measures.proofs.laws.source_measures.Goals as goal

pub returns : goal.returns
returns c = record { nodes = same_nodes; need = same_need; depth = same_depth }
