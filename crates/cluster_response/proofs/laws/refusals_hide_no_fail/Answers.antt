-- Proof obligations of `laws::refusals_hide_no_fail`.
use Rattle.cluster_response.proofs.Allowed.{hide_no_fail}
use Rattle.cluster_response.proofs.laws.refusals_hide_no_fail.Goals as goal

pub returns : goal.returns
returns c = hide_no_fail
