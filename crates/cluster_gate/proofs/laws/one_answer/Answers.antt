-- Proof obligations of `laws::one_answer`.
use Rattle.cluster_gate.proofs.OneAnswer.{one_answer}
use Rattle.cluster_gate.proofs.laws.one_answer.Goals as goal

pub returns : goal.returns
returns c = one_answer c.compiles_once.ensures.answer c.findings_once.ensures
