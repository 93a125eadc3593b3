-- Proofs of `matching::one_covers`: the result meets the contract.

use Rattle.admission_match.proofs.Prelude.{◌∙◌}
use Rattle.admission_match.proofs.Texts.{covered_in_views}
use Rattle.admission_match.proofs.matching.one_covers.Goals as goal

pub returns : goal.returns
returns g c = c.some_covers.ensures ∙ covered_in_views c.args.request.now.resource.resource.now c.args.request.now.subresource.now c.args.rules.now
