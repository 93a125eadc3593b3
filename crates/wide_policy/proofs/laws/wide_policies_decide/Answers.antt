-- Proof obligations of `laws::wide_policies_decide`.
use Rattle.wide_policy.proofs.Theorem.{policies_decide}
use Rattle.wide_policy.proofs.laws.wide_policies_decide.Goals as goal

pub returns : goal.returns
returns c = policies_decide c.carried_policy_decides.ensures c.one_tree.ensures.text
