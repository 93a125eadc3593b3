-- Proof obligations of `session_over` (src/sessions.rt).
use Rattle.debugger.proofs.Prelude.{◌≡◌, ◌<◌, ◌∙◌, ℕ, List, Some, State, ReadsAndWrites, ap, arith, length, refl, subst}
use Rattle.streams.proofs.Heard.{alone}
use Rattle.debugger.proofs.Ending.{session_told}
use Rattle.debugger.proofs.Going.{going_start}
use Rattle.debugger.proofs.Marks.{says_text}
use Rattle.debugger.proofs.sessions.session_over.Goals as goal

pub hear_input-requires : goal.hear_input-requires
hear_input-requires g c =
    let made = c.new-conversation.ensures in
    (omega arith, (omega arith, λ before is. (refl, rw (made.line, made.breakpoints, made.history, c.requires.place) (going_start _ before _ is))))

pub returns-clause-session : goal.returns-clause-session
returns-clause-session g c =
    let size = ap length c.new-buffer.ensures in
    let short : length c.new-buffer.result < 1 = omega (arith, size) in
    let told : (input before : List ℕ) → g.R.Source.left c.args.r.now ≡ Some input → g.W.Sink.taken c.args.w.now ≡ Some before
    → ReadsAndWrites (g.H.History.origin c.args.history) input before (g.R.Source.left c.hear_input.new.r) (g.W.Sink.taken c.hear_input.new.w) c.hear_input.result =
    λ input before e f.
    subst (λ (s : State). ReadsAndWrites s input before (g.R.Source.left c.hear_input.new.r) (g.W.Sink.taken c.hear_input.new.w) c.hear_input.result)
    (ap g.H.History.origin c.new-conversation.ensures.history)
    (session_told _ input before _ _ _ _ _ _ c.hear_input.result
    (rw (alone c.hear_input.new.buffer (g.R.Source.left c.hear_input.new.r) (c.hear_input.ensures.room short))
    at (c.hear_input.ensures.told input before (alone _ _ short ∙ e) f))) in
    record {
      told = told;
      text = λ input before written e f is none. says_text _ input before written _ _ _ (told input before e f) is none;
      fails = c.hear_input.ensures.fails;
    }
