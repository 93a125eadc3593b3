-- Proof obligations of `responding::status_object`.
use Rattle.cluster_response.proofs.responding.status_object.Goals as goal

pub returns : goal.returns
returns c = c.object.ensures _ (c.with_text.ensures _ (c.with_text-told.ensures _ (c.with_number-coded.ensures _ c.no_members.ensures)))
