-- Proof obligations of `opening::standing_of`.
use Rattle.cluster_gate.proofs.Prelude.{◌∙◌, true, false, sym}
use Rattle.cluster_gate.proofs.Asked.{compiled_with}
use Rattle.cluster_gate.proofs.opening.standing_of.Goals as goal

pub returns-then-branch : goal.returns-then-branch
returns-then-branch c l p of s lacks =
    compiled_with l p c.args.gate true of (sym (c.in_ok-names_namespace_in_conditions.ensures of.of_policy.1.trees of.of_policy.1.compiles) ∙ c.if-branch.true)

pub returns-then-lacks : goal.returns-then-lacks
returns-then-lacks c l p of s lacks = (
  compiled_with l p c.args.gate false of (sym (c.in_ok-names_namespace_in_conditions.ensures of.of_policy.1.trees of.of_policy.1.compiles) ∙ c.if-branch.false),
  lacks ∙ c.if-lacks.true,
)

pub returns : goal.returns
returns c l p of s lacks = (
  record { gate_of = of; naming = sym (c.in_ok-names_namespace_in_conditions.ensures of.of_policy.1.trees of.of_policy.1.compiles) ∙ c.if-branch.false },
  lacks ∙ c.if-lacks.false,
)
