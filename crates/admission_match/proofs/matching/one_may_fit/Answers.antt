-- Proofs of `matching::one_may_fit`: the result meets the contract.

use Rattle.admission_match.proofs.Prelude.{◌∙◌, attributes_view}
use Rattle.admission_match.proofs.Texts.{may_fit_in_views}
use Rattle.admission_match.proofs.matching.one_may_fit.Goals as goal

pub returns : goal.returns
returns g c = c.some_may_fit.ensures ∙ may_fit_in_views (attributes_view g.L.Labels.map c.args.request.now) c.args.rules.now
