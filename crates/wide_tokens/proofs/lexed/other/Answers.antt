-- Proof obligations of `other` (src/lexed.rt).
use Rattle.wide_tokens.proofs.Prelude.{sym, ◌∙◌}
use Rattle.wide_tokens.proofs.Marked.{mark_shown}
use Rattle.wide_tokens.proofs.lexed.other.Goals as goal

pub returns-in-Some-mark_at-clause-shown : goal.returns-in-Some-mark_at-clause-shown
returns-in-Some-mark_at-clause-shown c =
    mark_shown c.args.bytes.now c.in-Some-mark_at.field-0-0 c.in-Some-mark_at.len (sym c.in_default.ensures.value) (sym c.mark_at.ensures.value ∙ c.in-Some-mark_at.is)
