-- Proof obligations of `answering::answer_to_kept`.
use Rattle.line_answers.proofs.Prelude.{no_memory}
use Rattle.line_answers.proofs.OneLine.{kept_answer, lacking}
use Rattle.line_answers.proofs.answering.answer_to_kept.Goals as goal

pub returns-then-line : goal.returns-then-line
returns-then-line g c most bytes keeps = no_memory (lacking most c.args.line.now bytes c.if-line.true keeps)

pub returns : goal.returns
returns g c most bytes keeps =
    kept_answer most _ _ c.args.line.now bytes _ c.if-line.false keeps (rw (c.as_slice.ensures.value, keeps.most_is) at c.answer_to.ensures)
