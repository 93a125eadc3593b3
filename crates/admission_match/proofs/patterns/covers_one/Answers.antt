-- Proofs of `patterns::covers_one`: the result meets the contract.

use Rattle.admission_match.proofs.Prelude.{◌∙◌}
use Rattle.admission_match.proofs.Texts.{covers_one_in_texts}
use Rattle.admission_match.proofs.patterns.covers_one.Goals as goal

pub returns : goal.returns
returns c = c.some_covers.ensures ∙ covers_one_in_texts c.args.resource.now c.args.subresource.now c.args.patterns.now
