-- Proof obligations of `telling::answer_and_tell`.
use Rattle.std.proofs.Common.{rules}
use Rattle.line_answers.proofs.Prelude.{◌∙◌, ap, refl}
use Rattle.streams.specs.Streams.{stream}
use Rattle.line_answers.proofs.Going.{fails_judged, kept_start}
use Rattle.line_answers.proofs.Tells.{tells_all, tells_moved, tells_start}
use Rattle.line_answers.proofs.telling.answer_and_tell.Goals as goal

pub hear_lines-ended-requires : goal.hear_lines-ended-requires
hear_lines-ended-requires g c before is = (
  refl,
  refl,
  kept_start _ c.new.result c.new.ensures,
  λ fits. rw (c.new-2.ensures.count, c.new-2.ensures.failed) (tells_start _ _ before _ is),
)

pub returns : goal.returns
returns g c = rw c.judged.ensures (record {
  told = λ input before e f.
      let first = ap (λ v. stream (g.E.Sink.taken v) (g.E.Sink.failed v)) c.new-2.ensures.now in
      let t = tells_all c.new.result.most _ (g.D.Decider.refuses c.args.rules.now.decider.now) (g.D.Decider.decides c.args.rules.now.decider.now) _ _ _ _ _ _ input before
      _ _ _ _ _ c.new.ensures.most_is first c.hear_lines-ended.result (c.hear_lines-ended.ensures.told input before e f) in
      let named = t.0 ∙ c.new-2.ensures.same_reference in
      (t.1, t.2, tells_moved _ _ _ t.1 (search (rules, named)) (search (rules, named)) t.3);
  fails = fails_judged _ c.hear_lines-ended.result _ _ _ _ c.hear_lines-ended.ensures.fails;
})
