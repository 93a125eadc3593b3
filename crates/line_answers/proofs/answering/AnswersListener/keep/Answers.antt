-- Proof obligations of `answering::AnswersListener::keep`.
use Rattle.line_answers.proofs.Going.{going_part, kept_part}
use Rattle.line_answers.proofs.answering.AnswersListener.keep.Goals as goal

pub returns : goal.returns
returns g c written start before heard h =
    (h.0, going_part _ _ _ _ h.1 _ c.requires, kept_part _ c.extend.new.self _ _ c.requires (c.extend.ensures _ _ h.2))
