-- Proof obligations of `answering::answer_lines`.
use Rattle.line_answers.proofs.Prelude.{◌≡◌, ℕ, List, cut, refl, AnswersInputLine, KeepsLine}
use Rattle.line_answers.proofs.Going.{fails_judged, going_start, heard_told, kept_start}
use Rattle.line_answers.proofs.answering.answer_lines.Goals as goal

pub hear_lines-ended-requires : goal.hear_lines-ended-requires
hear_lines-ended-requires g c before is = (refl, going_start _ before _ is, kept_start _ c.new.result c.new.ensures)

pub returns : goal.returns
returns g c = rw c.judged.ensures (record {
  told = λ input before e f.
      rw c.new.ensures.most_is at
      (heard_told (AnswersInputLine c.new.result.most (g.D.Decider.refuses c.args.decider.now) (g.D.Decider.decides c.args.decider.now)) input before _ _
      c.hear_lines-ended.new.listener.pass (c.hear_lines-ended.new.listener.decider.now ≡ c.args.decider.now)
      (λ (heard : List ℕ). KeepsLine c.new.result.most c.hear_lines-ended.new.listener.line (cut heard).1)
      c.hear_lines-ended.result (c.hear_lines-ended.ensures.told input before e f));
  fails = fails_judged _ c.hear_lines-ended.result _ _ _ _ c.hear_lines-ended.ensures.fails;
})
