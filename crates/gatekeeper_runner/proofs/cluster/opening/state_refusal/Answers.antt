-- Proof obligations of `cluster::opening::state_refusal`.
use Rattle.gatekeeper_runner.proofs.OfClusters.Ends.{not_listed_at, refused_state}
use Rattle.gatekeeper_runner.proofs.cluster.opening.state_refusal.Goals as goal

pub returns-in-NotAList : goal.returns-in-NotAList
returns-in-NotAList c known hold due = not_listed_at known _ _ hold c.in-NotAList.place _ (rw c.in-NotAList.is at due) c.not_listed.ensures

pub returns-in_default : goal.returns-in_default
returns-in_default c known hold due = rw c.from.ensures (refused_state known _ _ hold c.args.error c.in_default.not-NotAList due)
