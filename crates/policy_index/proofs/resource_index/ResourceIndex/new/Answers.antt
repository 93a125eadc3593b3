-- Proof obligations of `ResourceIndex::new`.
use Rattle.policy_index.proofs.Prelude.{arith}
use Rattle.policy_index.proofs.Marking.{answers_after_all, answers_after_more, answers_before_all}
use Rattle.policy_index.proofs.resource_index.ResourceIndex.new.Goals as goal

pub loop-place-init : goal.loop-place-init
loop-place-init c x =
    answers_before_all c.args.constraints.now x c.new-rows.result c.in_ok-others.others c.new-rows.ensures.empty c.in_ok-others.ensures

pub loop-place-preserved : goal.loop-place-preserved
loop-place-preserved c x =
    answers_after_more c.args.constraints.now c.loop-place.place _ x _ _ c.loop-place-test.true c.index-constraints-place.is
    (c.loop-place.invariant x) (c.in_ok-mark_resources.ensures x)

pub returns : goal.returns
returns c x =
    answers_after_all c.args.constraints.now c.loop-place.place x _ (omega (arith, c.loop-place-test.false)) (c.loop-place.invariant x)
