-- Proof obligations of `program::perform`.
use Rattle.gatekeeper_runner.proofs.program.perform.Goals as goal

pub returns-in-Policies-clause-does : goal.returns-in-Policies-clause-does
returns-in-Policies-clause-does g c = rw c.in-Policies.is c.answer_under.ensures.ends

pub returns-in-Cluster-clause-does : goal.returns-in-Cluster-clause-does
returns-in-Cluster-clause-does g c = rw c.in-Cluster.is c.answer_as_cluster.ensures.ends

pub returns-in-Translation-clause-does : goal.returns-in-Translation-clause-does
returns-in-Translation-clause-does g c = rw c.in-Translation.is (c.answer_translation.ensures.ends _)
