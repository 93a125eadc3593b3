-- Proofs of `laws::typed_is_expanded`: the result meets the contract.

use Rattle.cel_types.proofs.TypedCores.{typed_is_expanded}
use Rattle.cel_types.proofs.laws.typed_is_expanded.Goals as goal

pub returns : goal.returns
returns c = typed_is_expanded
