-- Proof obligations of `laws::equivalents_are_free`.
use Rattle.cluster_gate.proofs.ServedOnce.{equivalents_are_free}
use Rattle.cluster_gate.proofs.ServedSteps.{servers_have_answers}
use Rattle.cluster_gate.proofs.laws.equivalents_are_free.Goals as goal

pub returns-clause-answers : goal.returns-clause-answers
returns-clause-answers c = servers_have_answers c.every_server_agrees.ensures

pub returns-clause-same : goal.returns-clause-same
returns-clause-same c = equivalents_are_free c.compiles_once.ensures.answer c.findings_once.ensures c.every_server_agrees.ensures
