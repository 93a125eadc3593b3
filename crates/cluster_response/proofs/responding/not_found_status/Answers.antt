-- Proof obligations of `responding::not_found_status`.
use Rattle.cluster_response.proofs.Prelude.{◌∙◌}
use Rattle.cluster_response.proofs.responding.not_found_status.Goals as goal

pub returns : goal.returns
returns c = rw (c.as_str.ensures.value ∙ c.in_ok-message.ensures) at c.status_object.ensures
