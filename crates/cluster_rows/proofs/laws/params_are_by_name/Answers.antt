-- Proofs of `laws::params_are_by_name`: the result meets the contract.

use Rattle.cluster_rows.proofs.ParamOrder.{params_are_by_name}
use Rattle.cluster_rows.proofs.laws.params_are_by_name.Goals as goal

pub returns : goal.returns
returns c = params_are_by_name
