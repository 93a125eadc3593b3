-- Proofs of `ints::int`: the result meets the contract.
use Rattle.text_functions.proofs.Prelude.{◌∙◌}
use Rattle.text_functions.proofs.SpelledInts.{parsed}
use Rattle.text_functions.proofs.ints.int.Goals as goal

pub returns : goal.returns
returns c = c.ok.ensures.value ∙ parsed c.args.text.now c.parse.result c.parse.ensures.value.0
