-- Proofs of `storing::are_label_values`: the result meets the contract.

use Rattle.label_selectors.proofs.Prelude.{◌∙◌}
use Rattle.label_selectors.proofs.Parts.{values_of_texts}
use Rattle.label_selectors.proofs.storing.are_label_values.Goals as goal

pub returns : goal.returns
returns c = c.all_are_label_values.ensures ∙ values_of_texts c.args.values.now
