-- Proofs of `response::with_text`: the result meets the contract.

use Rattle.verdicts.proofs.Prelude.{◌∙◌}
use Rattle.verdicts.proofs.ResponseTexts.{text_added}
use Rattle.verdicts.proofs.response.with_text.Goals as goal

pub returns : goal.returns
returns c = c.into_inner.ensures.items ∙ text_added _ _ _ _ c.new-writer.ensures.before c.new-writer.ensures.tokens c.in_ok-string.ensures
