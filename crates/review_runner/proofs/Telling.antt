-- The policy's verdict as a session with its image prints it.
use Rattle.review_runner.proofs.Prelude.{◌≡◌, ℕ, ◌≤◌, false, List, [], ◌∷◌, ◌++◌, length, Some, Result, Ok, refl, sym, ap, ◌∙◌, subst, arith, codes, inl, inr, fold_push, version_number, image_in, LoadError, Contents, Roots, State, start_state, state_after, HasValues, IsProgram, Policy, Decides, OutOfBudget, LeavesByExit, policy_in, policy_of, PolicyTree, FailurePolicy, Line, SessionState, answer_of, answer_to, command_of, form_of, Dialogue, granted, dialogue_after, dialogue_of, with_answer, verdict_lines, verdict_text, Documents, decision, started, start_of, started_on, opened_by, GivenHaveValues, PolicyRun, held_with, IsDecided, TellsVerdict, VerdictIsTold, shown_after, start, session_state_after}
use Rattle.loader.specs.Contents as loader
use Rattle.policy_glue.specs.Documents as policy
use Rattle.debugger.specs.declared.command.Command.TheVariants.{Verdict}
use Rattle.review_runner.specs.Debugging as debugging
use Rattle.admission.proofs.Decided.{compiled_length, few_findings}
use Rattle.review_runner.proofs.ImageKept.{image_of_start}
use Rattle.admission.proofs.OneReview.{plain_roots, profile_roots, roots_once}
use Rattle.admission.proofs.Said.{profile_said}
use Rattle.admission.specs.declared.language.Language.TheVariants.{Profile}
use Rattle.review_runner.proofs.ToldLines as lines

-- ---- the number of findings

few_validations : (document : List ℕ) (q : Policy) → policy_in document ≡ Ok q → length q.validations ≤ 64
unfolding policy_in policy_of
few_validations document q e = grind arith

-- ---- the line `w`

asks_verdict : command_of (codes "w") ≡ Verdict
unfolding command_of form_of
asks_verdict = refl

answered : (s : State) (w : SessionState) → (answer_to s w (granted (codes "w"))).text ≡ verdict_text (state_after w.place s)
unfolding answer_to answer_of
answered s w = rw asks_verdict refl

heard : (s : State) (t : Dialogue) (l : Line) → t.session_state.ended ≡ false → dialogue_after s t l ≡ with_answer s t l
unfolding dialogue_after
heard s t l on = rw on refl

-- what it prints after these lines, if the session continues
written : (s : State) (lines : List Line) → (dialogue_of s lines).session_state.ended ≡ false
    → (dialogue_of s (lines ++ granted (codes "w") ∷ [])).text ≡ (dialogue_of s lines).text ++ verdict_text (state_after (dialogue_of s lines).session_state.place s)
written s lines on = grind (arith, answered, heard, fold_push)

-- ---- a policy's image

-- the image has version 2 in every state
version_is : (f : FailurePolicy) (t : PolicyTree) (image : loader.Image) (values : Contents) (k : ℕ) → IsProgram f t image
    → version_number (state_after k (start_state image values)).image.version ≡ 2
version_is f t image values k program = ap (λ (i : loader.Image). version_number i.version) (image_of_start image values k) ∙ ap version_number program.version

module _ (have : GivenHaveValues) (d : Documents) (run : PolicyRun d) (profile : d.language ≡ Profile) where
  has : HasValues run.case.roots (started run.case.roots)
  has =
      let own = have (Some d.review) d.namespace d.params (started run.case.own) run.case.are_given in
      let same : run.case.roots ≡ own.roots = profile_roots d run.case profile ∙ roots_once run.case.own own.roots own.are in
      subst (λ (r : Roots). HasValues r (started r)) (sym same) (subst (HasValues own.roots) own.are own.has)

  few : length (decision run.case).findings ≤ 64
  few =
      let trees = run.case.policy.trees in
      let many = compiled_length run.case.policy.parsed (Ok trees) trees run.case.policy.compiles refl in
      omega (arith, few_findings run.case.policy.parsed.failure_policy trees run.case.roots, many, few_validations d.policy run.case.policy.parsed (profile_said d run.case.policy.told run.case.policy.parsed run.case.policy.wrapped profile run.case.policy.is_said))

  told : (seen : List Line) → (session_state_after run seen).ended ≡ false → Decides run.case.policy.parsed.failure_policy run.case.policy.trees run.case.roots (started run.case.roots) (shown_after run seen) → TellsVerdict run seen
  told seen on (OutOfBudget is why) = TellsVerdict.over is why
  told seen on (LeavesByExit is layout) =
      let s = shown_after run seen in
      let f = run.case.policy.parsed.failure_policy in
      let v = decision run.case in
      TellsVerdict.told (lines.references f v s.values.values s.memory layout few) is (lines.are f v s.values.values s.memory layout few)
      (written (start run) seen on
      ∙ ap (λ (text : List ℕ). (dialogue_of (start run) seen).text ++ text) (ap (λ (n : ℕ). verdict_lines n s.memory) (version_is f run.case.policy.trees run.image (started run.case.roots) (session_state_after run seen).place run.program) ∙ lines.text_is f v s.values.values s.memory layout few))

  decides : (seen : List Line) → IsDecided run seen → Decides run.case.policy.parsed.failure_policy run.case.policy.trees run.case.roots (started run.case.roots) (shown_after run seen)
  decides seen is =
      elim is.is_there [
        | inl stopped ↦ run.program.stops run.case.roots (started run.case.roots) (session_state_after run seen).place has stopped
        | inr late ↦ run.program.decides run.case.roots (started run.case.roots) (session_state_after run seen).place has late
      ]

  tells : (seen : List Line) → IsDecided run seen → TellsVerdict run seen
  tells seen is = told seen is.goes_on (decides seen is)

starts : (d : Documents) (run : PolicyRun d) (file : List ℕ) → run.case.policy.wrapped ≡ false → image_in file ≡ Ok run.image → start_of (Ok (held_with file d)) ≡ Ok (start run)
starts d run file plain holds =
    ap (λ (r : Result loader.Image LoadError). started_on (opened_by r) (held_with file d)) holds ∙ ap (debugging.started run.image) run.case.are_given
    ∙ ap (λ (r : Roots). Ok (start_state run.image (started r))) (sym (plain_roots d run.case plain))

pub verdict_is_told : GivenHaveValues → VerdictIsTold
verdict_is_told have = record { starts = starts; tells = λ d run lines profile. tells have d run profile lines }
