-- The policy's verdict as a session prints it, with the image of a policy on the documents of a review.
use Rattle.std.specs.Prelude.{◌≡◌, ℕ, suc, ◌*◌, ◌≤◌, ◌⊎◌, false, List, [], ◌∷◌, ◌++◌, map, count_by, codes, decimal, Ok}
use Rattle.guest_memory.specs.declared.fault.Fault.TheVariants.{F8}
use Rattle.loader.specs.Format.{image_in}
use Rattle.value_store.specs.Value.{ValueOrError}
use Rattle.bpf_machine.specs.State.{State, start_state}
use Rattle.bpf_machine.specs.Step.{is_running}
use Rattle.bpf_machine.specs.Trace.{state_after}
use Rattle.bpf_machine.specs.declared.status.Status.TheVariants.{Exited, Fault}
use Rattle.expression_code.specs.Limits.{steps_per_visit}
use Rattle.policy_glue.specs.Layout.{IsMessageWord, outcome_word, truth_word}
use Rattle.policy_glue.specs.Verdict.{Finding, Verdict, is_denial}
use Rattle.policy_glue.specs.declared.failure_policy.FailurePolicy.{FailurePolicy}
use Rattle.debugger.specs.Answers.{Line, SessionState}
use Rattle.debugger.specs.Session.{granted, dialogue_of}
use Rattle.debugger.specs.Verdict.{word_line}
use Rattle.admission.specs.Deciding.{Documents, IsBeyond, decision, started, work}
use Rattle.admission.specs.declared.language.Language.TheVariants.{Profile}
use Rattle.review_runner.specs.Debugging.{start_of}
use Rattle.review_runner.specs.PolicyFiles.{held_with}
use Rattle.admission.specs.Standing.{PolicyRun}

-- ---- the output of `w`

-- a line with its number for each of these words that is not 0; the first word has this number
abbrev pub numbered_lines : List ℕ → ℕ → List ℕ → List ℕ
numbered_lines name i [] = []
numbered_lines name i (w ∷ ws) = word_line name i w ++ numbered_lines name (suc i) ws

-- the word of the outcome and the number of denials
abbrev pub outcome_line : FailurePolicy → Verdict → List ℕ
outcome_line f v =
    codes "verdict " ++ (decimal (outcome_word v.outcome) ++ (codes " " ++ (decimal (count_by (is_denial f) v.findings) ++ 10 ∷ [])))

-- these, each validation that is false (1) or an error (2), and the reference of each message
unfoldable pub told_text : FailurePolicy → Verdict → List ℕ → List ℕ
told_text f v references =
    outcome_line f v
    ++ (numbered_lines (codes "validation") 0 (map (λ x. truth_word x.truth) v.findings)
    ++ numbered_lines (codes "message") 0 references)

-- for each finding the reference of its message text, or 0 if it has none
abbrev pub AreMessageReferences : List ValueOrError → List Finding → List ℕ → Type 0
AreMessageReferences values [] [] = Unit {0}
AreMessageReferences values (x ∷ xs) (h ∷ hs) = IsMessageWord values h x.message × AreMessageReferences values xs hs
AreMessageReferences values _ _ = ⊥

-- ---- sessions

module _ {d : Documents} (run : PolicyRun d) where
  -- the state at the start of the session
  abbrev pub start : State
  start = start_state run.image (started run.case.roots)

  -- the session's own state after these lines
  abbrev pub session_state_after : List Line → SessionState
  session_state_after lines = (dialogue_of start lines).session_state

  -- the state of the machine that it then shows
  abbrev pub shown_after : List Line → State
  shown_after lines = state_after (session_state_after lines).place start

  -- the session continues, and shows a stopped state, or one after `steps_per_visit` steps for each unit of the
  -- policy's work
  pub record IsDecided (lines : List Line) : Type 0 where
    pub goes_on : (session_state_after lines).ended ≡ false
    pub is_there : (is_running (shown_after lines).status ≡ false) ⊎ (steps_per_visit * work run.case ≤ (session_state_after lines).place)

  -- a further line `w` prints this text
  abbrev pub SessionWrites : List Line → List ℕ → Type 0
  SessionWrites lines text = (dialogue_of start (lines ++ granted (codes "w") ∷ [])).text ≡ (dialogue_of start lines).text ++ text

  -- The program has exited with the policy's outcome, and `w` prints its verdict; or F8 stopped it, because the bound
  -- on its charge is passed or a value is too deep.
  pub data TellsVerdict (lines : List Line) : Type 0 where
    told : (references : List ℕ)
        → (shown_after lines).status ≡ Exited (outcome_word (decision run.case).outcome)
        → AreMessageReferences (shown_after lines).values.values (decision run.case).findings references
        → SessionWrites lines (told_text run.case.policy.parsed.failure_policy (decision run.case) references) → TellsVerdict lines
    over : (shown_after lines).status ≡ Fault F8 → IsBeyond run.case → TellsVerdict lines

-- this holds after any lines, with moves in both directions
pub record VerdictIsTold : Type 0 where
  pub starts : (d : Documents) (run : PolicyRun d) (file : List ℕ) → run.case.policy.wrapped ≡ false → image_in file ≡ Ok run.image
      → start_of (Ok (held_with file d)) ≡ Ok (start run)
  pub tells : (d : Documents) (run : PolicyRun d) (lines : List Line) → d.language ≡ Profile → IsDecided run lines → TellsVerdict run lines
