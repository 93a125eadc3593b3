-- Proof obligations of `texts::text_of`.
use Rattle.cluster_gate.proofs.Written.{has_text}
use Rattle.cluster_gate.proofs.texts.text_of.Goals as goal

pub returns : goal.returns
returns c = has_text _ _ c.in_ok-text.ensures.utf8 c.in_ok-text.ensures.text c.in_ok-text.ensures.reads_back
