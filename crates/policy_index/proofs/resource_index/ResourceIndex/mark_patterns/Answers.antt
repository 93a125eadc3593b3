-- Proof obligations of `ResourceIndex::mark_patterns`.
use Rattle.policy_index.proofs.Prelude.{◌∙◌, answers, ap, arith, bytes_eq, marked, named_resource, string_bytes}
use Rattle.policy_index.proofs.Marking.{marked_all, marked_more}
use Rattle.policy_index.proofs.resource_index.ResourceIndex.mark_patterns.Goals as goal

pub loop-pattern-preserved : goal.loop-pattern-preserved
loop-pattern-preserved c x =
    marked_more c.args.place (λ p. bytes_eq (named_resource (string_bytes p)) x) c.args.patterns.now
    c.loop-pattern.pattern-index c.pattern-item.result _ _ _ c.loop-pattern-test.true c.pattern-item.is (c.loop-pattern.invariant x)
    (c.in_ok-mark.ensures x ∙ ap (λ t. marked (answers c.loop-pattern.self x) c.args.place (bytes_eq t x))
    (c.named_resource.ensures ∙ ap named_resource c.as_str.ensures.value))

pub returns : goal.returns
returns c x =
    marked_all c.args.place (λ p. bytes_eq (named_resource (string_bytes p)) x) c.args.patterns.now c.loop-pattern.pattern-index _ _
    (omega (arith, c.loop-pattern-test.false)) (c.loop-pattern.invariant x)
