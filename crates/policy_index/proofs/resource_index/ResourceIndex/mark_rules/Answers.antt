-- Proof obligations of `ResourceIndex::mark_rules`.
use Rattle.policy_index.proofs.Prelude.{◌∙◌, answers, ap, arith, marked, patterns_have}
use Rattle.policy_index.proofs.Marking.{marked_all, marked_more}
use Rattle.policy_index.proofs.resource_index.ResourceIndex.mark_rules.Goals as goal

pub loop-rule-preserved : goal.loop-rule-preserved
loop-rule-preserved c x =
    marked_more c.args.place (λ r. patterns_have r.resources.items x) c.args.rules.now c.loop-rule.rule-index c.rule-item.result
    _ _ _ c.loop-rule-test.true c.rule-item.is (c.loop-rule.invariant x)
    (c.in_ok-mark_patterns.ensures x
    ∙ ap (λ ps. marked (answers c.loop-rule.self x) c.args.place (patterns_have ps x)) c.deref.ensures.value)

pub returns : goal.returns
returns c x =
    marked_all c.args.place (λ r. patterns_have r.resources.items x) c.args.rules.now c.loop-rule.rule-index _ _
    (omega (arith, c.loop-rule-test.false)) (c.loop-rule.invariant x)
