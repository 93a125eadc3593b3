-- Proofs of `laws::every_server_agrees`: the result meets the contract.

use Rattle.admission_match.proofs.Servers.{every_server_agrees}
use Rattle.admission_match.proofs.laws.every_server_agrees.Goals as goal

pub returns : goal.returns
returns c = every_server_agrees
