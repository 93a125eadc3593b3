-- Proof obligations of `ConversationListener::hear_end` (src/conversation.rt).
use Rattle.debugger.proofs.Prelude.{◌∙◌, ap, eqb-true, length, nil_from_length, sym}
use Rattle.debugger.proofs.Going.{end_line, end_none, end_part, some_byte}
use Rattle.debugger.proofs.conversation.ConversationListener.hear_end.Goals as goal

pub returns-then-is_empty-clause-over : goal.returns-then-is_empty-clause-over
returns-then-is_empty-clause-over g c start before heard h =
    let zero = eqb-true _ _ (sym c.is_empty.ensures ∙ c.if-is_empty.true) in
    end_none h.1 (sym c.as_slice-line.ensures.value ∙ nil_from_length _ zero)

pub returns-in-Ok-clause-over : goal.returns-in-Ok-clause-over
returns-in-Ok-clause-over g c start before heard h =
    let said = rw (h.0, c.as_slice-line.ensures.value) at c.in-Ok.ensures.heard in
    let some = rw c.as_slice-line.ensures.value at (some_byte _ (sym c.is_empty.ensures ∙ c.if-is_empty.false)) in
    end_line h.1 _ _ some said

pub returns-in-Err-clause-broken : goal.returns-in-Err-clause-broken
returns-in-Err-clause-broken g c start before heard h =
    let part = rw (h.0, c.as_slice-line.ensures.value) at c.in-Err.ensures.part in
    let some = rw c.as_slice-line.ensures.value at (some_byte _ (sym c.is_empty.ensures ∙ c.if-is_empty.false)) in
    end_part h.1 _ some part
