-- Proofs of `laws::types_stay`: the result meets the contract.

use Rattle.cel_types.proofs.CoreTypes.{expansion_typed}
use Rattle.cel_types.proofs.laws.types_stay.Goals as goal

pub returns : goal.returns
returns c = expansion_typed
