-- Proof obligations of `mark_front` (src/lexed.rt).
use Rattle.cel_tokens.proofs.Prelude.{sym, ◌∙◌}
use Rattle.cel_tokens.proofs.Marked.{mark_shown}
use Rattle.cel_tokens.proofs.lexed.mark_front.Goals as goal

pub returns-in-Some-clause-shown : goal.returns-in-Some-clause-shown
returns-in-Some-clause-shown c = mark_shown c.args.bytes.now c.in-Some.field-0-0 c.in-Some.len (sym c.mark_at.ensures.value ∙ c.in-Some.is)
