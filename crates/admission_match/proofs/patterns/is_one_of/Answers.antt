-- Proofs of `patterns::is_one_of`: the result meets the contract.

use Rattle.admission_match.proofs.Prelude.{◌∙◌}
use Rattle.admission_match.proofs.Texts.{one_of_texts}
use Rattle.admission_match.proofs.patterns.is_one_of.Goals as goal

pub returns : goal.returns
returns c = c.some_is.ensures ∙ one_of_texts c.args.text.now c.args.texts.now
