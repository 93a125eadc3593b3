-- Proofs of `laws::candidates_may_fit`: the result meets the contract.

use Rattle.admission_match.proofs.Candidates.{candidates_may_fit}
use Rattle.admission_match.proofs.laws.candidates_may_fit.Goals as goal

pub returns : goal.returns
returns c = candidates_may_fit
