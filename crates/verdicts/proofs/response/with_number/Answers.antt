-- Proofs of `response::with_number`: the result meets the contract.

use Rattle.verdicts.proofs.Prelude.{◌∙◌}
use Rattle.verdicts.proofs.ResponseTexts.{number_added}
use Rattle.verdicts.proofs.response.with_number.Goals as goal

pub returns : goal.returns
returns c = c.into_inner.ensures.items ∙ number_added _ _ _ _ c.new-writer.ensures.before c.new-writer.ensures.tokens c.in_ok-u64.ensures
