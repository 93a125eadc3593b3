-- Proof obligations of `ConversationListener::keep` (src/conversation.rt).
use Rattle.debugger.proofs.Going.{going_part}
use Rattle.debugger.proofs.conversation.ConversationListener.keep.Goals as goal

pub returns : goal.returns
returns g c written start before heard h = (h.0, going_part h.1 _ _ c.requires c.keep_start.ensures)
