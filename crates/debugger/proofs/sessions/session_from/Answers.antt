-- Proof obligations of `session_from` (src/sessions.rt).
use Rattle.debugger.proofs.Ending.{unstarted}
use Rattle.debugger.proofs.sessions.session_from.Goals as goal

pub returns-in_err-history : goal.returns-in_err-history
returns-in_err-history g c = unstarted _ _ _ c.from_residual.result c.from_residual.ensures.1
