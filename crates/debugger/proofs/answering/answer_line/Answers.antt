-- Proof obligations of `answer_line` (src/answering.rt).
use Rattle.debugger.proofs.Prelude.{◌∙◌, ap, refl, sym, false, Bool, session_state_at}
use Rattle.debugger.proofs.Asked.{answers_granted, answers_refused}
use Rattle.debugger.proofs.answering.answer_line.Goals as goal

pub returns-in-Ok-clause-answers : goal.returns-in-Ok-clause-answers
returns-in-Ok-clause-answers g c =
    answers_granted _ _ _ _ _ _ c.execute.ensures.fits c.of-command.ensures (c.in-Ok.ensures.next ∙ ap (λ (ended : Bool). session_state_at c.execute.new.breakpoints (g.H.History.place c.execute.new.h) ended) (sym c.is_quit.ensures)) c.in-Ok.ensures.text

pub returns-in-Err-clause-answers : goal.returns-in-Err-clause-answers
returns-in-Err-clause-answers g c =
    answers_refused _ _ _ _ _ _ c.execute.ensures.fits c.of-command.ensures c.in-Err.ensures.refused (λ i. session_state_at (sym c.in-Err.ensures.err_breakpoints i) (sym c.in-Err.ensures.err_place i) false) refl
