-- Proofs of `equivalents::fits_one_version`: the result meets the contract.

use Rattle.admission_match.proofs.Prelude.{◌∙◌, attributes_view, rule_view}
use Rattle.admission_match.proofs.Texts.{versions_in_texts}
use Rattle.admission_match.proofs.equivalents.fits_one_version.Goals as goal

pub returns : goal.returns
returns g c = c.some_fits_other_version.ensures ∙ versions_in_texts (rule_view c.args.rule.now) (attributes_view g.L.Labels.map c.args.request.now) c.args.patterns.now
