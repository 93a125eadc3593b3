-- Proofs of `requirement::is_one_of`: the result meets the contract.

use Rattle.label_selectors.proofs.Prelude.{◌∙◌}
use Rattle.label_selectors.proofs.Parts.{any_of_texts}
use Rattle.label_selectors.proofs.requirement.is_one_of.Goals as goal

pub returns : goal.returns
returns c = c.some_is.ensures ∙ any_of_texts c.args.value.now c.args.texts.now
