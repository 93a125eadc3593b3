-- Proof obligations of `responding::status`.
use Rattle.cluster_response.proofs.responding.status.Goals as goal

pub returns : goal.returns
returns c = rw (c.code.ensures, c.name.ensures) at c.status_object.ensures
