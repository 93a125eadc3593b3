-- Proofs of `laws::verdict_is_told`: the result meets the contract.

use Rattle.review_runner.proofs.Telling.{verdict_is_told}
use Rattle.review_runner.proofs.laws.verdict_is_told.Goals as goal

pub returns : goal.returns
returns c = verdict_is_told c.roots_have_values.ensures.given
