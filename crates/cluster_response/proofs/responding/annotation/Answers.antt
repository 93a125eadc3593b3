-- Proof obligations of `responding::annotation`.
use Rattle.cluster_response.proofs.Prelude.{◌∙◌}
use Rattle.cluster_response.proofs.responding.annotation.Goals as goal

pub returns : goal.returns
returns c = rw (c.as_str.ensures.value ∙ c.in_ok-value.ensures) at (c.object.ensures _ (c.with_text.ensures _ c.no_members.ensures))
