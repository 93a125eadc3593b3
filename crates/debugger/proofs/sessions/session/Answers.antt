-- Proof obligations of `session` (src/sessions.rt).
use Rattle.debugger.proofs.Prelude.{subst, sym, State, stream, IsSession, StaysSized}
use Rattle.debugger.proofs.Ending.{unstarted}
use Rattle.debugger.proofs.Sizes.{stays_sized}
use Rattle.debugger.proofs.sessions.session.Goals as goal

pub session_from-requires : goal.session_from-requires
session_from-requires g c = subst StaysSized (sym c.in_ok-machine.ensures) (stays_sized _ _)

pub returns : goal.returns
returns g c =
    subst (λ (s : State). IsSession s (stream (g.R.Source.left c.args.r.now) (g.R.Source.failed c.args.r.now)) (stream (g.R.Source.left c.session_from.new.r) (g.R.Source.failed c.session_from.new.r)) (stream (g.W.Sink.taken c.args.w.now) (g.W.Sink.failed c.args.w.now)) (stream (g.W.Sink.taken c.session_from.new.w) (g.W.Sink.failed c.session_from.new.w)) c.session_from.result) c.in_ok-machine.ensures c.session_from.ensures

pub returns-in_err-machine : goal.returns-in_err-machine
returns-in_err-machine g c = unstarted _ _ _ c.from_residual.result c.from_residual.ensures.1
