-- Proofs of `matching::one_fits`: the result meets the contract.

use Rattle.admission_match.proofs.Prelude.{◌∙◌, attributes_view, resource_view}
use Rattle.admission_match.proofs.Texts.{fit_in_views}
use Rattle.admission_match.proofs.matching.one_fits.Goals as goal

pub returns : goal.returns
returns g c = c.some_fits.ensures ∙ fit_in_views (attributes_view g.L.Labels.map c.args.request.now) (resource_view c.args.request.now.resource) c.args.rules.now
