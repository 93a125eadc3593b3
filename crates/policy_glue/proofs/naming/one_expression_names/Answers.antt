-- Proof obligations of `naming::one_expression_names`.
use Rattle.policy_glue.proofs.Named.{named_next}
use Rattle.policy_glue.specs.Naming.{names}
use Rattle.policy_glue.proofs.naming.one_expression_names.Goals as goal

pub loop-named-preserved : goal.loop-named-preserved
loop-named-preserved c =
    named_next (names c.args.name.now) c.args.expressions.now c.loop-named.named-index c.named-item.result c.as_str.result.now c.in_ok-text_names.field-0 c.loop-named-test.true c.named-item.is
    c.as_str.ensures.value c.in_ok-text_names.ensures c.loop-named.invariant c.if-branch.false
