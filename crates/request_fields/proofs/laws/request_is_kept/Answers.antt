-- Proofs of `laws::request_is_kept`: the law holds.

use Rattle.request_fields.proofs.Requests.{request_is_kept}
use Rattle.request_fields.proofs.laws.request_is_kept.Goals as goal

pub returns : goal.returns
returns c = request_is_kept
