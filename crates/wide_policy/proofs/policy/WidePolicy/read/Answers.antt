-- Proof obligations of `WidePolicy::read`.
use Rattle.wide_policy.proofs.Theorem.{decided_read, wide_read}
use Rattle.wide_policy.proofs.policy.WidePolicy.read.Goals as goal

pub returns-clause-wide : goal.returns-clause-wide
returns-clause-wide c = wide_read c.args.rule c.args.document.now c.carried_policy_decides.ensures c.one_tree.ensures.text c.read_either.result c.read_either.ensures

pub returns-clause-decides : goal.returns-clause-decides
returns-clause-decides c = decided_read c.args.rule c.args.document.now c.carried_policy_decides.ensures c.one_tree.ensures.text c.read_either.result c.read_either.ensures
