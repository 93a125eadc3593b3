-- Proofs of `laws::answers_once`: the result meets the contract.

use Rattle.gatekeeper_runner.proofs.OfPolicies.LineOnce.{lines_once}
use Rattle.gatekeeper_runner.proofs.laws.answers_once.Goals as goal

pub returns : goal.returns
returns c = lines_once c.compiles_once.ensures.answer c.reviews_once.ensures
