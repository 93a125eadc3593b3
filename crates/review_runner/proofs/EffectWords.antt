-- The effect of an order is the effect of the words that give it.
use Rattle.review_runner.proofs.Prelude.{◌≡◌, ◌∙◌, ℕ, ◌∷◌, Bool, true, false, List, [], Option, Result, Ok, Err, Some}
use Rattle.review_runner.proofs.Prelude.{None, refl, sym, ap, subst, inl, inr, codes, unwrap_or, number_of}
use Rattle.review_runner.proofs.Prelude.{default_steps, bytes_eq-Decides, Row, Text, LoadError, image_in, start_of}
use Rattle.review_runner.proofs.Prelude.{started_on, opened_by, run_image_outcome, ReviewsHeld, DocumentFiles, Order}
use Rattle.review_runner.proofs.Prelude.{order_in, order_named, OrderOutcome, PerformsBy, ProgramEffect, DoesOrder}
use Rattle.review_runner.proofs.Prelude.{Ending, Given, System, faults, entered, Refusal, FileError, RunError}
use Rattle.review_runner.proofs.Prelude.{Contents, assemble_in, compile_in, debug_in, list_in, review_in}
use Rattle.review_runner.proofs.Prelude.{run_image_in}
use Rattle.std.specs.Str.{bytes_eq}
use Rattle.loader.specs.Contents.{Image}
use Rattle.bpf_machine.specs.State.{State, start_state}
use Rattle.streams.specs.declared.session_error.SessionError.{SessionError, TheVariants.ReadFailed}
use Rattle.streams.specs.declared.session_error.SessionError.{TheVariants.WriteFailed}
use Rattle.streams.specs.declared.session_error.SessionError.TheVariants as session_error
use Rattle.debugger.specs.Transcript.{IsSession}
use Rattle.admission.specs.Reviews.{contents_given}
use Rattle.admission.specs.Standing.{Images}
use Rattle.cli.specs.declared.refusal.Refusal.TheVariants as refusal
use Rattle.clap.specs.Words.{one_of}
use Rattle.cli.specs.Ending.{AsksNothing}
use Rattle.cli.specs.Ending as ending
use Rattle.host.specs.declared.order_error.OrderError.TheVariants.{InvalidArguments}
use Rattle.host.specs.declared.order_error.OrderError.TheVariants as order_error
use Rattle.review_runner.proofs.Limit.{limit_is_read}
use Rattle.review_runner.specs.Debugging as debugging
use Rattle.review_runner.specs.Debugging.{DebugsByResult, SessionFiles}
use Rattle.review_runner.specs.Effect.{CarriesOut, Does, Hold, WordsEffect, command_of, files_read, session_ending}
use Rattle.review_runner.specs.Effect.{steps_of}
use Rattle.review_runner.specs.Effect as effect
use Rattle.review_runner.specs.Performing as performing
use Rattle.review_runner.specs.Program as program
use Rattle.review_runner.specs.Program.{Delivers, ending_of}
use Rattle.review_runner.proofs.EffectFiles.{names_of, FilesBy, by_files, kept}
use Rattle.review_runner.proofs.Effects.{ReviewLaws, seen, compiled, assembled, listed, run, reviewed, not_started}

-- ---- sessions

-- the image and the roots that a session starts on
pub record StartsOn (h : SessionFiles) (state : State) : Type 0 where
  pub image : Image
  pub values : Contents
  pub is_image : image_in h.subject ≡ Ok image
  pub are_values : contents_given h.review h.namespace h.params ≡ Ok values
  pub is_state : start_state image values ≡ state

state_or : State → Result State Refusal → State
state_or other (Ok s) = s
state_or other (Err r) = other

by_roots : (h : SessionFiles) (state : State) (image : Image) (c : Result Contents RunError) → image_in h.subject ≡ Ok image
    → contents_given h.review h.namespace h.params ≡ c → debugging.started image c ≡ Ok state → StartsOn h state
unfolding state_or
by_roots h state image (Ok values) is given due =
    record { image = image; values = values; is_image = is; are_values = given; is_state = ap (state_or state) due }
by_roots h state image (Err e) is given due = cc

by_image : (h : SessionFiles) (state : State) (i : Result Image LoadError) → image_in h.subject ≡ i → started_on (opened_by i) h ≡ Ok state → StartsOn h state
by_image h state (Ok image) is due = by_roots h state image _ is refl due
by_image h state (Err e) is due = cc

-- the limit of steps as the code reads it
abbrev limit_in : List Row → ℕ
limit_in rows = unwrap_or (number_of (one_of (codes "steps") rows)) default_steps

module _ (laws : ReviewLaws) (chosen : Images) (rows : List Row) (read : limit_in rows ≡ steps_of rows) (old new : System) where
  abbrev Ends : Text → Ending → Type 0
  Ends command ending = Does chosen rows old new command ending

  by_held : (files : DocumentFiles) (image : List ℕ) (state : State) (held : Result SessionFiles FileError) (result : Result (Unit {0}) SessionError)
      → names_of image files ≡ files_read (codes "debug") rows → FilesBy old.files image files held → start_of held ≡ Ok state
      → IsSession state old.input new.input old.output new.output result → new.files ≡ old.files → Ends (codes "debug") (session_ending result)
  by_held files image state (Ok h) result names hold due is same =
      let on = by_image h state _ refl due in
      effect.session h.subject h.review h.namespace h.params result (subst (λ (n : List (Option Text)). Hold old.files n (Some h.subject ∷ h.review ∷ h.namespace ∷ h.params ∷ [])) names hold)
      on.is_image on.are_values
      (subst (λ (s : State). IsSession s old.input new.input old.output new.output result) (sym on.is_state) is) same
  by_held files image state (Err e) result names hold due is same = cc

  debugs : (files : DocumentFiles) (image : List ℕ) (result : Result (Unit {0}) SessionError) → names_of image files ≡ files_read (codes "debug") rows
      → debugging.Debugs old.files image files old.input new.input old.output new.output result → new.files ≡ old.files
      → Ends (codes "debug") (session_ending result)
  debugs files image result names d same =
      by_held files image d.state d.starts.held result names (by_files old.files image files d.starts.held d.starts.holds) d.starts.starts d.is_session same

  none : (files : DocumentFiles) (image : List ℕ) (r : Refusal) → names_of image files ≡ files_read (codes "debug") rows
      → (n : debugging.DebugsNone old.files image files old.input new.input old.output new.output r) → start_of n.refused.held ≡ Err r
      → new.files ≡ old.files → Ends (codes "debug") (Err r)
  none files image r names n due same =
      effect.refused
      (not_started chosen rows old.files new.files files image n.refused.held names (by_files old.files image files n.refused.held n.refused.holds) r due same)
      n.none_read n.none_written

  debugged : (files : DocumentFiles) (image : List ℕ) (result : Result (Unit {0}) Refusal) → names_of image files ≡ files_read (codes "debug") rows
      → DebugsByResult old.files image files old.input new.input old.output new.output result → new.files ≡ old.files
      → Ends (codes "debug") (ending_of result)
  debugged files image (Ok u) names d same = debugs files image (Ok u) names d same
  debugged files image (Err refusal.Input) names d same = debugs files image (Err ReadFailed) names d same
  debugged files image (Err refusal.Output) names d same = debugs files image (Err WriteFailed) names d same
  debugged files image (Err refusal.Memory) names (inl n) same = effect.refused (effect.no_memory same) n.none_read n.none_written
  debugged files image (Err refusal.Memory) names (inr d) same = debugs files image (Err session_error.Memory) names d same
  debugged files image (Err refusal.File) names d same = none files image refusal.File names d d.refused.starts same
  debugged files image (Err (refusal.Image e)) names d same = none files image (refusal.Image e) names d d.refused.starts same
  debugged files image (Err (refusal.Run e)) names d same = none files image (refusal.Run e) names d d.refused.starts same
  debugged files image (Err refusal.Words) names d same = absurd d
  debugged files image (Err refusal.Text) names d same = absurd d
  debugged files image (Err (refusal.Program e)) names d same = absurd d
  debugged files image (Err (refusal.Policy e)) names d same = absurd d

  -- ---- orders

  delivered : (command : Text) (outcome : OrderOutcome) (ending : Ending) → CarriesOut chosen rows old.files new.files command (seen outcome)
      → Delivers old.output new.output outcome ending → new.input ≡ old.input → Ends command ending
  delivered command outcome ending p (program.refused stays) same = effect.refused p same stays
  delivered command outcome ending p (program.whole writes) same = effect.written p same writes
  delivered command outcome ending p (program.cut part) same = effect.cut p same part

  compile_performed : (outcome : OrderOutcome) → PerformsBy chosen old.files (compile_in rows) new.files outcome
      → CarriesOut chosen rows old.files new.files (codes "compile") (seen outcome)
  unfolding compile_in
  compile_performed outcome (performing.performs m) = compiled chosen rows old.files new.files m.reading m.file outcome m.is_reading m.made m.writes
  compile_performed outcome (performing.lacks_memory l) = effect.no_memory_to_make (inl refl) (kept _ _ l.0)

  assemble_performed : (outcome : OrderOutcome) → PerformsBy chosen old.files (assemble_in rows) new.files outcome
      → CarriesOut chosen rows old.files new.files (codes "asm") (seen outcome)
  unfolding assemble_in
  assemble_performed outcome (performing.performs m) = assembled chosen rows old.files new.files m.reading m.file outcome m.is_reading m.made m.writes
  assemble_performed outcome (performing.lacks_memory l) = effect.no_memory_to_make (inr refl) (kept _ _ l.0)

  run_performed : (outcome : OrderOutcome) → PerformsBy chosen old.files (run_image_in rows) new.files outcome
      → CarriesOut chosen rows old.files new.files (codes "run-image") (seen outcome)
  unfolding run_image_in
  run_performed outcome (performing.performs m) =
      subst (λ (o : OrderOutcome). CarriesOut chosen rows old.files new.files (codes "run-image") (seen o))
      (sym (m.outcome_is ∙ ap (run_image_outcome m.reading) read))
      (run chosen rows old.files new.files m.reading m.is_reading m.stays)
  run_performed outcome (performing.lacks_memory l) = effect.no_memory l.0

  list_performed : (outcome : OrderOutcome) → PerformsBy chosen old.files (list_in rows) new.files outcome
      → CarriesOut chosen rows old.files new.files (codes "list") (seen outcome)
  unfolding list_in
  list_performed outcome (performing.performs m) = listed chosen rows old.files new.files m.reading outcome m.is_reading m.is_listed m.stays
  list_performed outcome (performing.lacks_memory l) = effect.no_memory l.0

  review_performed : (outcome : OrderOutcome) → PerformsBy chosen old.files (review_in rows) new.files outcome
      → CarriesOut chosen rows old.files new.files (codes "review") (seen outcome)
  unfolding review_in
  review_performed outcome (performing.performs m) =
      reviewed chosen rows old.files laws new.files _ _ m.held outcome refl (by_files old.files _ _ _ m.holds)
      (subst (λ (n : ℕ). ReviewsHeld chosen n m.held outcome) read m.reviews) m.stays
  review_performed outcome (performing.lacks_memory l) = absurd l

  abbrev Orders : Order → Text → Type 0
  Orders wanted command = (ending : Ending) → DoesOrder chosen old new wanted ending → Ends command ending

  compiles : Orders (compile_in rows) (codes "compile")
  unfolding compile_in
  compiles ending (program.order a same) = delivered (codes "compile") a.outcome ending (compile_performed a.outcome a.performs) a.delivers same

  assembles : Orders (assemble_in rows) (codes "asm")
  unfolding assemble_in
  assembles ending (program.order a same) = delivered (codes "asm") a.outcome ending (assemble_performed a.outcome a.performs) a.delivers same

  runs : Orders (run_image_in rows) (codes "run-image")
  unfolding run_image_in
  runs ending (program.order a same) = delivered (codes "run-image") a.outcome ending (run_performed a.outcome a.performs) a.delivers same

  lists : Orders (list_in rows) (codes "list")
  unfolding list_in
  lists ending (program.order a same) = delivered (codes "list") a.outcome ending (list_performed a.outcome a.performs) a.delivers same

  reviews : Orders (review_in rows) (codes "review")
  unfolding review_in
  reviews ending (program.order a same) = delivered (codes "review") a.outcome ending (review_performed a.outcome a.performs) a.delivers same

  none_performed : (outcome : OrderOutcome) → PerformsBy chosen old.files (debug_in rows) new.files outcome → ⊥
  unfolding debug_in
  none_performed outcome (performing.performs m) = m
  none_performed outcome (performing.lacks_memory l) = l

  sessions : Orders (debug_in rows) (codes "debug")
  unfolding debug_in
  sessions ending (program.order a same) = absurd (none_performed a.outcome a.performs)
  sessions ending (program.session result d same) = debugged _ _ result refl d same

  abbrev Named : Text → Type 0
  Named name = Orders (order_named name rows) (command_of name)

-- ---- names

test_by : (P : Text → Type 0) (name word : Text) (b : Bool) → bytes_eq name word ≡ b → P word → (bytes_eq name word ≡ false → P name) → P name
test_by P name word true is here other = subst P (sym ((bytes_eq-Decides name word).0 is)) here
test_by P name word false is here other = other is

test : (P : Text → Type 0) (name word : Text) → P word → (bytes_eq name word ≡ false → P name) → P name
test P name word here other = test_by P name word (bytes_eq name word) refl here other

named : (laws : ReviewLaws) (chosen : Images) (rows : List Row) (read : limit_in rows ≡ steps_of rows) (old new : System) (name : Text) → Named laws chosen rows read old new name
named laws chosen rows read old new name =
    let P : Text → Type 0 = Named laws chosen rows read old new in
    test P name (codes "compile") (compiles laws chosen rows read old new) (λ e1. test P name (codes "review") (reviews laws chosen rows read old new)
    (λ e2. test P name (codes "run-image") (runs laws chosen rows read old new) (λ e3. test P name (codes "asm") (assembles laws chosen rows read old new)
    (λ e4. test P name (codes "list") (lists laws chosen rows read old new) (λ e5. rw (e1, e2, e3, e4, e5) (sessions laws chosen rows read old new))))))

-- ---- the words

by_entered : (laws : ReviewLaws) (chosen : Images) (given : Given) (old new : System) (words : List Text) (o : Option (Text × List Row)) (wanted : Order) (ending : Ending) → given ≡ Ok words
    → faults words ≡ [] → entered words ≡ o → order_in o ≡ Some wanted → DoesOrder chosen old new wanted ending → WordsEffect chosen given old new ending
unfolding faults entered
by_entered laws chosen given old new words (Some p) wanted ending are taken is asked d =
    let same = ap (λ (o : Option Order). unwrap_or o wanted) asked in
    effect.does are taken is (named laws chosen p.1 (limit_is_read words p taken is) old new p.0 ending (subst (λ (w : Order). DoesOrder chosen old new w ending) (sym same) d))
by_entered laws chosen given old new words None wanted ending are taken is asked d = cc

nothing_done : (chosen : Images) (given : Given) (old new : System) (r : Refusal) → AsksNothing faults given r → new ≡ old → WordsEffect chosen given old new (Err r)
unfolding faults
nothing_done chosen given old new r (ending.no_words {e = InvalidArguments}) same = effect.not_given refl same
nothing_done chosen given old new r (ending.no_words {e = order_error.Memory}) same = effect.no_memory_for_words (λ is. cc) same
nothing_done chosen given old new r (ending.not_taken bad) same = effect.not_taken refl bad same
nothing_done chosen given old new r ending.no_memory same = effect.no_memory_for_words (λ is. cc) same

-- the effect by orders is an effect of the words
pub by_words : (laws : ReviewLaws) (chosen : Images) (given : Given) (old new : System) (ending : Ending) → ProgramEffect chosen given old new ending
    → WordsEffect chosen given old new ending
unfolding faults
by_words laws chosen given old new ending (program.nothing {r} asks same) = nothing_done chosen given old new r asks same
by_words laws chosen given old new ending (program.does_order asks d) = by_entered laws chosen given old new asks.words _ _ ending asks.are_given asks.are_taken refl asks.asked d
