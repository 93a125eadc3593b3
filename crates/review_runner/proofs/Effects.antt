-- The effect of an order but for a session is the effect of the command that gives it.
use Rattle.review_runner.proofs.Prelude.{◌≡◌, ◌∙◌, ℕ, ◌+◌, ◌*◌, ◌<◌, ◌∷◌, ◌++◌, ◌⊎◌, Bool, true, false, List, [], Option}
use Rattle.review_runner.proofs.Prelude.{Result, Ok, Err, Some, refl, sym, ap, subst, codes, if◌then◌else◌, Row, Text}
use Rattle.review_runner.proofs.Prelude.{LoadError, image_in, image_from, First, Source, IsUtf8, run_of, run_of_file}
use Rattle.review_runner.proofs.Prelude.{start_of, started_on, Reply, Documents, FileSystem, IsReading, FileRead}
use Rattle.review_runner.proofs.Prelude.{Assembled, ListingOutcome, WritesImage, CompiledFrom, file_from, opened}
use Rattle.review_runner.proofs.Prelude.{opened_by, run_outcome, run_image_outcome, ReviewsHeld, review_outcome}
use Rattle.review_runner.proofs.Prelude.{DocumentFiles, OrderOutcome, Refusal, file_refusal, FileError, Failed}
use Rattle.review_runner.proofs.Prelude.{RunError, Contents, arith, inl, inr}
use Rattle.loader.specs.Contents.{Image}
use Rattle.loader.specs.declared.load_error.LoadError.TheVariants as load_error
use Rattle.bpf_machine.specs.State.{State}
use Rattle.host.specs.declared.file_error.FileError.TheVariants as file_error
use Rattle.assembler.proofs.Sources.{of_source}
use Rattle.assembler.specs.Assembles.{Assembles}
use Rattle.streams.specs.Lines.{input_lines}
use Rattle.review_runner.proofs.SourceLines.{same_lines}
use Rattle.admission.specs.Deciding.{Case, Reviews, answer_of, decision, is_allowed, started}
use Rattle.admission.specs.Reviews.{contents_given, uid_in}
use Rattle.admission.specs.Endings.{NoLimitOfReads}
use Rattle.admission.specs.Standing.{RunEnding, Images, RunAgrees, PolicyRunEnds, ending_by, has_stopped, out_of_reads, out_of_steps, steps_alone}
use Rattle.admission.specs.declared.run_error.RunError.TheVariants as run_error
use Rattle.admission.proofs.OneReview.{cases_once, profile_fits, profile_roots}
use Rattle.admission.proofs.Said.{profile_said, profile_told}
use Rattle.admission.specs.declared.language.Language.TheVariants.{Profile}
use Rattle.bpf_machine.specs.State.{start_state}
use Rattle.bpf_machine.specs.Trace.{state_after}
use Rattle.bpf_machine.specs.declared.status.Status.{Status, TheVariants.Running, TheVariants.Exited, TheVariants.Fault}
use Rattle.cel_macros.specs.Environment.{Roots}
use Rattle.expression_code.specs.Limits.{charge_per_unit, steps_per_visit}
use Rattle.policy_glue.specs.Budget.{IsDeepPolicy, policy_spent, policy_work}
use Rattle.policy_glue.specs.Evaluation.{decision_of}
use Rattle.policy_glue.specs.OneAnswer.{CompileHasOneResult}
use Rattle.policy_glue.specs.Policy.{Policy}
use Rattle.policy_glue.specs.Response.{response_of}
use Rattle.policy_glue.specs.Trees.{PolicyTree}
use Rattle.policy_glue.specs.Verdict.{Verdict}
use Rattle.value_store.specs.Placing.{charge_limit}
use Rattle.review_runner.specs.Debugging as debugging
use Rattle.review_runner.specs.Debugging.{SessionFiles}
use Rattle.review_runner.specs.Effect.{CarriesOut, Hold, ReviewRun, files_read, steps_of, value}
use Rattle.review_runner.specs.Effect as effect
use Rattle.review_runner.specs.Making as making
use Rattle.review_runner.specs.Performing as performing
use Rattle.review_runner.specs.PolicyFiles as policy_files
use Rattle.review_runner.specs.PolicyFiles.{answer_status, held_of_review}
use Rattle.review_runner.specs.Running.{shown_after}
use Rattle.review_runner.proofs.EffectFiles.{Fails, fails_at, names_of}
use Rattle.review_runner.proofs.EffectFiles.{FilesBy, takes_of, refuses_of, leaves_with, leaves_all}

-- ---- outcomes

abbrev pub seen : OrderOutcome → Result (ℕ × List ℕ) Refusal
seen (Ok report) = Ok (report.status, report.out)
seen (Err r) = Err r

pub status_is : (allowed : Bool) → (if allowed then 0 else 1) ≡ answer_status allowed
status_is true = refl
status_is false = refl

-- ---- texts

pub assembled_lines : (text code : List ℕ) → Source text code → Assembles (input_lines text) (Ok code)
assembled_lines text code source = subst (λ (ls : List (List ℕ)). Assembles ls (Ok code)) (same_lines text) (of_source text code source)

-- ---- runs

-- the laws that reviews need
pub record ReviewLaws : Type 0 where
  pub once : CompileHasOneResult
  pub unlimited : NoLimitOfReads

-- the last status of a run with this end
abbrev pub last_status : RunEnding → Status
last_status (has_stopped t) = t
last_status out_of_steps = Running
last_status out_of_reads = Running

is_last : (t : Status) → last_status (ending_by t false) ≡ t
is_last Running = refl
is_last (Exited w) = refl
is_last (Fault f) = refl

not_below_itself : (m : ℕ) → m < m → ⊥
not_below_itself m h = omega (arith, h)

-- ---- reviews

-- what holds of one case of the documents holds of each
pub moved : CompileHasOneResult → (d : Documents) (c e : Case d) (P : Policy → PolicyTree → Roots → Type 0) → P c.policy.parsed c.policy.trees c.roots
    → P e.policy.parsed e.policy.trees e.roots
moved once d c e P given =
    let same = cases_once once d c e in
    subst (λ (p : Policy). P p e.policy.trees e.roots) same.0
    (subst (λ (t : PolicyTree). P c.policy.parsed t e.roots) same.1 (subst (λ (r : Roots). P c.policy.parsed c.policy.trees r) same.2 given))

pub run_of_review : NoLimitOfReads → (chosen : Images) (d : Documents) (n : ℕ) (due : Verdict → RunEnding) → d.language ≡ Profile → PolicyRunEnds chosen d (steps_alone n) due
    → ReviewRun chosen n d.policy d.review d.namespace d.params (λ v. last_status (due v))
run_of_review unlimited chosen d n due profile has = record {
  policy = has.run.case.policy.parsed;
  is_policy = profile_said d has.run.case.policy.told has.run.case.policy.parsed has.run.case.policy.wrapped profile has.run.case.policy.is_said;
  trees = has.run.case.policy.trees;
  compiles = has.run.case.policy.compiles;
  image = has.run.image;
  program = has.run.program;
  is_chosen = has.is_chosen;
  roots = has.run.case.roots;
  are_given = has.run.case.are_given ∙ ap (λ (r : Roots). Ok (started r)) (sym (profile_roots d has.run.case profile));
  verdict = decision has.run.case;
  is_verdict = refl;
  status =
      let first = start_state has.run.image (started has.run.case.roots) in
      sym (is_last (state_after n first).status) ∙ ap last_status (sym (unlimited first n) ∙ has.ends);
}

-- ---- commands but for sessions

module _ (chosen : Images) (rows : List Row) (old : Option FileSystem) where
  abbrev pub Holds : Documents → Type 0
  Holds d = Hold old (files_read (codes "review") rows) (Some d.policy ∷ Some d.review ∷ d.namespace ∷ d.params ∷ [])

  abbrev pub Has : Option FileSystem → Text → Result (ℕ × List ℕ) Refusal → Type 0
  Has new command outcome = CarriesOut chosen rows old new command outcome

  pub unread : (new : Option FileSystem) (command : Text) (e : FileError) → Fails old (files_read command rows) e → new ≡ old
      → Has new command (Err (file_refusal e))
  unread new command file_error.Memory fails same = effect.no_memory same
  unread new command Failed fails same = effect.unread fails.before fails.after fails.name fails.held fails.are fails.hold fails.fails same

  pub compiled : (new : Option FileSystem) (reading : FileRead) (file : Result (List ℕ) Refusal) (outcome : OrderOutcome)
      → IsReading old (value (codes "POLICY") rows) reading → CompiledFrom chosen reading file
      → WritesImage old (value (codes "IMAGE") rows) file new outcome → Has new (codes "compile") (seen outcome)
  compiled new reading file outcome is (policy_files.no_file {e}) performing.nothing =
      unread old (codes "compile") e (fails_at old [] [] [] (Some (value (codes "POLICY") rows)) e tt is) refl
  compiled new reading file outcome is (policy_files.no_image refused) performing.nothing =
      effect.given (is, tt) (effect.not_compiled refused) refl
  compiled new reading file outcome is (policy_files.image policy image choice) (performing.written write) =
      effect.made (is, tt) (effect.compiled policy image.compiles image.program choice) (takes_of _ _ _ _ write) (leaves_with _ _ _ _ write)
  compiled new reading file outcome is (policy_files.image policy image choice) (performing.failed write) =
      effect.unwritten (is, tt) (effect.compiled policy image.compiles image.program choice) (refuses_of _ _ _ _ write) (leaves_all _ _ _ _ write)

  pub of_code : (new : Option FileSystem) (text code : List ℕ) (r : Result Image LoadError) (outcome : OrderOutcome)
      → IsReading old (value (codes "TEXT") rows) (Ok text) → IsUtf8 text → Source text code → image_from First code [] ≡ r
      → WritesImage old (value (codes "IMAGE") rows) (file_from r) new outcome → Has new (codes "asm") (seen outcome)
  of_code new text code (Ok image) outcome is utf8 source made (performing.written write) =
      effect.made (is, tt) (effect.assembled utf8 (assembled_lines text code source) made) (takes_of _ _ _ _ write) (leaves_with _ _ _ _ write)
  of_code new text code (Ok image) outcome is utf8 source made (performing.failed write) =
      effect.unwritten (is, tt) (effect.assembled utf8 (assembled_lines text code source) made) (refuses_of _ _ _ _ write) (leaves_all _ _ _ _ write)
  of_code new text code (Err load_error.Memory) outcome is utf8 source made performing.nothing = effect.no_memory refl
  of_code new text code (Err e) outcome is utf8 source made performing.nothing =
      effect.given (is, tt) (effect.no_code utf8 (assembled_lines text code source) made) refl

  pub assembled : (new : Option FileSystem) (reading : FileRead) (file : Result (List ℕ) Refusal) (outcome : OrderOutcome)
      → IsReading old (value (codes "TEXT") rows) reading → Assembled reading file
      → WritesImage old (value (codes "IMAGE") rows) file new outcome → Has new (codes "asm") (seen outcome)
  assembled new reading file outcome is (making.no_file {e}) performing.nothing =
      unread old (codes "asm") e (fails_at old [] [] [] (Some (value (codes "TEXT") rows)) e tt is) refl
  assembled new reading file outcome is (making.no_text other) performing.nothing = effect.given (is, tt) (effect.no_text other) refl
  assembled new reading file outcome is (making.no_program {text} {e} utf8 cause) performing.nothing =
      effect.given (is, tt) (effect.no_program utf8 (subst (λ (ls : List (List ℕ)). Assembles ls (Err e)) (same_lines text) cause)) refl
  assembled new reading file outcome is (making.program {text} {code} utf8 source) writes =
      of_code new text code (image_from First code []) outcome is utf8 source refl writes

  pub of_listing : (new : Option FileSystem) (file : List ℕ) (r : Result Image LoadError) (outcome : OrderOutcome)
      → IsReading old (value (codes "IMAGE") rows) (Ok file) → image_in file ≡ r → ListingOutcome (opened_by r) outcome → new ≡ old
      → Has new (codes "list") (seen outcome)
  of_listing new file (Ok image) outcome is held (performing.listed text) same = effect.given (is, tt) (effect.listed held text) same
  of_listing new file (Err load_error.Memory) outcome is held performing.unlisted same = effect.no_memory same
  of_listing new file (Err e) outcome is held performing.unlisted same = effect.given (is, tt) (effect.not_listed held) same

  pub listed : (new : Option FileSystem) (reading : FileRead) (outcome : OrderOutcome) → IsReading old (value (codes "IMAGE") rows) reading
      → ListingOutcome (opened reading) outcome → new ≡ old → Has new (codes "list") (seen outcome)
  listed new (Ok file) outcome is l same = of_listing new file (image_in file) outcome is refl l same
  listed new (Err e) outcome is performing.unlisted same =
      unread new (codes "list") e (fails_at old [] [] [] (Some (value (codes "IMAGE") rows)) e tt is) same

  pub of_run : (new : Option FileSystem) (file : List ℕ) (r : Result Image LoadError) → IsReading old (value (codes "IMAGE") rows) (Ok file)
      → image_in file ≡ r → new ≡ old → Has new (codes "run-image") (seen (run_outcome (run_of r (steps_of rows))))
  unfolding shown_after
  of_run new file (Ok image) is held same = effect.given (is, tt) (effect.run held) same
  of_run new file (Err load_error.Memory) is held same = effect.no_memory same
  of_run new file (Err e) is held same = effect.given (is, tt) (effect.not_run held) same

  pub run : (new : Option FileSystem) (reading : FileRead) → IsReading old (value (codes "IMAGE") rows) reading → new ≡ old
      → Has new (codes "run-image") (seen (run_image_outcome reading (steps_of rows)))
  unfolding run_of_file
  run new (Ok file) is same = of_run new file (image_in file) is refl same
  run new (Err e) is same = unread new (codes "run-image") e (fails_at old [] [] [] (Some (value (codes "IMAGE") rows)) e tt is) same

  pub replied : ReviewLaws → (new : Option FileSystem) (d : Documents) (answer : Result Reply RunError) → d.language ≡ Profile → Holds d
      → Reviews d (steps_alone (steps_of rows)) answer → RunAgrees chosen d (steps_alone (steps_of rows)) answer → new ≡ old → Has new (codes "review") (seen (review_outcome answer))
  unfolding run_of_review
  replied laws new d (Ok reply) profile hold reviews agrees same =
      let run = run_of_review laws.unlimited chosen d (steps_of rows) _ profile agrees in
      let own = reviews.case.policy in
      let as_compiled = reviews.answer_is ∙ ap (λ (p : Policy). answer_of p (decision reviews.case) (uid_in d.review)) (profile_told d own.told own.parsed own.wrapped profile own.is_said) in
      let due = moved laws.once d reviews.case agrees.run.case (λ p t r. reply ≡ answer_of p (decision_of p.failure_policy t r) (uid_in d.review)) as_compiled in
      subst (λ (r : Reply). Has new (codes "review") (Ok (answer_status r.allowed, r.response ++ 10 ∷ []))) (sym due)
      (subst (λ (n : ℕ). Has new (codes "review") (Ok (n, response_of run.policy run.verdict (uid_in d.review) ++ 10 ∷ [])))
      (status_is (is_allowed run.verdict.outcome)) (effect.given hold (effect.replied run) same))
  replied laws new d (Err (run_error.PolicyRefused e)) profile hold refused agrees same = effect.given hold (effect.no_policy {others = Some d.review ∷ d.namespace ∷ d.params ∷ []} refused.1) same
  replied laws new d (Err run_error.ReviewRefused) profile hold (inl both) agrees same =
      effect.given hold (effect.no_review (profile_said d both.0.told both.0.parsed both.0.wrapped profile both.0.is_said) both.0.compiles both.1) same
  replied laws new d (Err run_error.ReviewRefused) profile hold (inr large) agrees same = absurd (profile_fits d profile large)
  replied laws new d (Err run_error.NamespaceOrParamsRefused) profile hold both agrees same =
      effect.given hold (effect.no_review (profile_said d both.0.told both.0.parsed both.0.wrapped profile both.0.is_said) both.0.compiles both.1) same
  replied laws new d (Err run_error.OutOfSteps) profile hold unended agrees same =
      effect.given hold (effect.unended (run_of_review laws.unlimited chosen d (steps_of rows) _ profile agrees)
      (moved laws.once d unended.case agrees.run.case (λ p t r. steps_of rows < steps_per_visit * policy_work p.failure_policy t r) unended.early)) same
  replied laws new d (Err run_error.OverLimit) profile hold stopped agrees same =
      effect.given hold (effect.stopped (run_of_review laws.unlimited chosen d (steps_of rows) _ profile agrees)
      (moved laws.once d stopped.case agrees.run.case
      (λ p t r. (charge_limit < (started r).charge + charge_per_unit * policy_spent p.failure_policy t r) ⊎ IsDeepPolicy p.failure_policy t r) stopped.beyond)) same
  replied laws new d (Err run_error.OutOfReads) profile hold read agrees same = absurd (not_below_itself _ read.limited)
  replied laws new d (Err run_error.Memory) profile hold reviews agrees same = effect.no_memory same

  pub reviewed : ReviewLaws → (new : Option FileSystem) (files : DocumentFiles) (policy : List ℕ) (held : Result Documents FileError) (outcome : OrderOutcome)
      → names_of policy files ≡ files_read (codes "review") rows → FilesBy old policy files (held_of_review held)
      → ReviewsHeld chosen (steps_of rows) held outcome → new ≡ old → Has new (codes "review") (seen outcome)
  reviewed laws new files policy (Err e) outcome names hold policy_files.unread same =
      unread new (codes "review") e (subst (λ (n : List (Option Text)). Fails old n e) names hold) same
  reviewed laws new files policy (Ok d) outcome names hold (policy_files.reviewed answer profile reviews agrees) same =
      replied laws new d answer profile
      (subst (λ (n : List (Option Text)). Hold old n (Some d.policy ∷ Some d.review ∷ d.namespace ∷ d.params ∷ [])) names hold) reviews agrees same

  pub of_refusal : Result State Refusal → Result (ℕ × List ℕ) Refusal
  of_refusal (Ok s) = Ok (0, [])
  of_refusal (Err r) = Err r

  -- the roots of an image, or why there are none
  pub of_roots : (new : Option FileSystem) (h : SessionFiles) (image : Image) (c : Result Contents RunError)
      → Hold old (files_read (codes "debug") rows) (Some h.subject ∷ h.review ∷ h.namespace ∷ h.params ∷ []) → image_in h.subject ≡ Ok image
      → contents_given h.review h.namespace h.params ≡ c → (r : Refusal) → debugging.started image c ≡ Err r → new ≡ old
      → Has new (codes "debug") (Err r)
  unfolding of_refusal
  of_roots new h image (Ok values) hold is given r due same = cc
  of_roots new h image (Err run_error.Memory) hold is given r due same = subst (Has new (codes "debug")) (ap of_refusal due) (effect.no_memory same)
  of_roots new h image (Err e) hold is given r due same =
      subst (Has new (codes "debug")) (ap of_refusal due) (effect.given hold (effect.no_roots is given) same)

  pub of_image : (new : Option FileSystem) (h : SessionFiles) (i : Result Image LoadError)
      → Hold old (files_read (codes "debug") rows) (Some h.subject ∷ h.review ∷ h.namespace ∷ h.params ∷ []) → image_in h.subject ≡ i
      → (r : Refusal) → started_on (opened_by i) h ≡ Err r → new ≡ old → Has new (codes "debug") (Err r)
  unfolding of_refusal
  of_image new h (Ok image) hold is r due same = of_roots new h image _ hold is refl r due same
  of_image new h (Err load_error.Memory) hold is r due same = subst (Has new (codes "debug")) (ap of_refusal due) (effect.no_memory same)
  of_image new h (Err e) hold is r due same = subst (Has new (codes "debug")) (ap of_refusal due) (effect.given hold (effect.no_image is) same)

  -- a session that does not start
  pub not_started : (new : Option FileSystem) (files : DocumentFiles) (image : List ℕ) (held : Result SessionFiles FileError)
      → names_of image files ≡ files_read (codes "debug") rows → FilesBy old image files held → (r : Refusal) → start_of held ≡ Err r
      → new ≡ old → Has new (codes "debug") (Err r)
  unfolding of_refusal
  not_started new files image (Ok h) names hold r due same =
      of_image new h _ (subst (λ (n : List (Option Text)). Hold old n (Some h.subject ∷ h.review ∷ h.namespace ∷ h.params ∷ [])) names hold) refl r due same
  not_started new files image (Err e) names hold r due same =
      subst (Has new (codes "debug")) (ap of_refusal due)
      (unread new (codes "debug") e (subst (λ (n : List (Option Text)). Fails old n e) names hold) same)
