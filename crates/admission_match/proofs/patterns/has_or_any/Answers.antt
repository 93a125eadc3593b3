-- Proofs of `patterns::has_or_any`: the result meets the contract.

use Rattle.admission_match.proofs.Prelude.{◌∙◌}
use Rattle.admission_match.proofs.Texts.{has_or_any_in_texts}
use Rattle.admission_match.proofs.patterns.has_or_any.Goals as goal

pub returns : goal.returns
returns c = c.some_is_text_or_any.ensures ∙ has_or_any_in_texts c.args.text.now c.args.patterns.now
