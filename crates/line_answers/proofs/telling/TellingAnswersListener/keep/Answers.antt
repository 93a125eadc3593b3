-- Proof obligations of `telling::TellingAnswersListener::keep`.
use Rattle.line_answers.proofs.Going.{kept_part}
use Rattle.line_answers.proofs.Tells.{fits_before, tells_part}
use Rattle.line_answers.proofs.telling.TellingAnswersListener.keep.Goals as goal

pub returns : goal.returns
returns g c written start before heard h = (
  h.0,
  h.1,
  kept_part _ c.extend.new.self _ _ c.requires (c.extend.ensures _ _ h.2),
  λ fits. tells_part _ _ _ _ _ _ _ heard _ (h.3 (fits_before heard _ fits)) _ c.requires,
)
