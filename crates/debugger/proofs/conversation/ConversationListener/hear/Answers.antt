-- Proof obligations of `ConversationListener::hear` (src/conversation.rt).
use Rattle.debugger.proofs.Prelude.{◌∙◌, sym}
use Rattle.debugger.proofs.Going.{going_line, told_part, told_quit}
use Rattle.debugger.proofs.conversation.ConversationListener.hear.Goals as goal

pub returns-in-Ok-clause-on : goal.returns-in-Ok-clause-on
returns-in-Ok-clause-on g c on start before heard h =
    let said = rw (h.0, c.as_slice-line.ensures.value) at c.in-Ok.ensures.heard in
    (c.write_answer.ensures.origin ∙ h.0, rw c.clear.ensures (going_line h.1 _ _ c.requires c.keep_start.ensures _ _ _ _ said (cc)))

pub returns-in-Ok-clause-over : goal.returns-in-Ok-clause-over
returns-in-Ok-clause-over g c over start before heard h =
    let said = rw (h.0, c.as_slice-line.ensures.value) at c.in-Ok.ensures.heard in
    told_quit h.1 _ _ c.requires c.keep_start.ensures _ _ said (cc)

pub returns-in-Err-clause-broken : goal.returns-in-Err-clause-broken
returns-in-Err-clause-broken g c start before heard h =
    let part = rw (h.0, c.as_slice-line.ensures.value) at c.in-Err.ensures.part in
    told_part h.1 _ _ c.requires c.keep_start.ensures _ part
