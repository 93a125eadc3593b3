-- The effect of the words of a command line: the files that are read and written, the input, the output, and the end.
use Rattle.std.specs.Prelude.{◌≡◌, ◌⊎◌, ℕ, ◌+◌, ◌*◌, ◌<◌, true, false, List, [], ◌∷◌, ◌++◌, codes}
use Rattle.std.specs.Prelude.{Option, Some, None, Result, Ok, Err, if◌then◌else◌, unwrap_or}
use Rattle.std.specs.List.{list_any}
use Rattle.std.specs.Option.{option_map_or}
use Rattle.std.specs.Str.{IsUtf8, bytes_eq}
use Rattle.std.specs.Str.Parse.{digits_value, without_leading_plus}
use Rattle.clap.specs.Words.{Row, Text, fault_of, first_of, one_of, subcommand_of}
use Rattle.insn_codec.specs.Statements.{Listing}
use Rattle.loader.specs.Contents.{Image}
use Rattle.loader.specs.Format.{file_of, image_from, image_in}
use Rattle.loader.specs.declared.load_error.LoadError.{LoadError}
use Rattle.loader.specs.declared.version.Version.TheVariants.{First}
use Rattle.assembler.specs.Assembles.{Assembles}
use Rattle.assembler.specs.declared.asm_error.AsmError.{AsmError}
use Rattle.value_store.specs.Placing.{Contents, charge_limit}
use Rattle.bpf_machine.specs.State.{State, null_values, start_state}
use Rattle.bpf_machine.specs.Text.{move_text, registers_text}
use Rattle.bpf_machine.specs.Trace.{state_after, stop_place}
use Rattle.bpf_machine.specs.declared.status.Status.{Status, TheVariants.Exited, TheVariants.Fault, TheVariants.Running}
use Rattle.cel_macros.specs.Environment.{Roots}
use Rattle.expression_code.specs.Limits.{charge_per_unit, steps_per_visit}
use Rattle.guest_memory.specs.declared.fault.Fault.TheVariants.{F8}
use Rattle.policy_glue.specs.Budget.{IsDeepPolicy, policy_spent, policy_work}
use Rattle.policy_glue.specs.Compiled.{IsProgram}
use Rattle.policy_glue.specs.Evaluation.{decision_of}
use Rattle.policy_glue.specs.Layout.{outcome_word}
use Rattle.policy_glue.specs.Limits.{Compiles}
use Rattle.policy_glue.specs.Policy.{Policy}
use Rattle.policy_glue.specs.Reading.{policy_in}
use Rattle.policy_glue.specs.Response.{response_of}
use Rattle.policy_glue.specs.Trees.{PolicyTree}
use Rattle.policy_glue.specs.Verdict.{Verdict}
use Rattle.streams.specs.declared.session_error.SessionError.{SessionError, TheVariants.ReadFailed, TheVariants.WriteFailed}
use Rattle.streams.specs.declared.session_error.SessionError.TheVariants as session_error
use Rattle.streams.specs.Lines.{input_lines}
use Rattle.streams.specs.Writing.{WritesBytes, WritesPart}
use Rattle.debugger.specs.Transcript.{IsSession}
use Rattle.host.specs.FileSystem.{FileSystem}
use Rattle.host.specs.declared.order_error.OrderError.TheVariants.{InvalidArguments}
use Rattle.admission.specs.Deciding.{IsPolicyRefused, is_allowed, started}
use Rattle.admission.specs.Reviews.{contents_given, uid_in}
use Rattle.admission.specs.Standing.{Images}
use Rattle.admission.specs.declared.policy_refusal.PolicyRefusal.{PolicyRefusal}
use Rattle.admission.specs.declared.run_error.RunError.{RunError, TheVariants.OutOfSteps, TheVariants.OverLimit, TheVariants.PolicyRefused}
use Rattle.cli.specs.Ending.{Ending, Given, System}
use Rattle.cli.specs.Limits.{default_steps}
use Rattle.cli.specs.declared.refusal.Refusal.{Refusal}
use Rattle.cli.specs.declared.refusal.Refusal.TheVariants.{File, Input, Memory, Output, Program, Words}
use Rattle.cli.specs.declared.refusal.Refusal.TheVariants.{Image as CodeImage, Policy as CodePolicy, Run as CodeRun, Text as CodeText}
use Rattle.review_runner.specs.Commands.{celbpf_app}
use Rattle.review_runner.specs.Output.{run_status}

-- ---- arguments

-- the value of a required argument
abbrev pub value : Text → List Row → Text
value argument rows = unwrap_or (first_of argument rows) []

-- the limit of steps, a decimal number
abbrev pub steps_of : List Row → ℕ
steps_of rows = option_map_or (λ t. digits_value 10 (without_leading_plus t)) (one_of (codes "steps") rows) default_steps

-- the command of this name; any name that is left is the last command's
abbrev pub command_of : Text → Text
command_of name =
    if list_any (bytes_eq name) (codes "compile" ∷ codes "asm" ∷ codes "run-image" ∷ codes "list" ∷ codes "review" ∷ []) then name
    else codes "debug"

-- the files that a command reads, in the order of the words; an option that is left out names none
abbrev pub files_read : Text → List Row → List (Option Text)
files_read command rows =
    if bytes_eq command (codes "compile") then Some (value (codes "POLICY") rows) ∷ []
    else (if bytes_eq command (codes "asm") then Some (value (codes "TEXT") rows) ∷ []
    else (if bytes_eq command (codes "review") then Some (value (codes "policy") rows) ∷ Some (value (codes "review") rows)
    ∷ first_of (codes "namespace") rows ∷ first_of (codes "params") rows ∷ []
    else (if bytes_eq command (codes "debug") then Some (value (codes "IMAGE") rows) ∷ first_of (codes "review") rows
    ∷ first_of (codes "namespace") rows ∷ first_of (codes "params") rows ∷ []
    else Some (value (codes "IMAGE") rows) ∷ [])))

-- ---- files

-- known files have these bytes under this name, or none
abbrev pub HasFile : Option FileSystem → Text → Option (List ℕ) → Type 0
HasFile known name held = (f : FileSystem) → known ≡ Some f → f.holds name ≡ held

-- the files with these names have these bytes
abbrev pub Hold : Option FileSystem → List (Option Text) → List (Option (List ℕ)) → Type 0
Hold known [] [] = Unit {0}
Hold known (Some name ∷ names) (Some bytes ∷ held) = HasFile known name (Some bytes) × Hold known names held
Hold known (None ∷ names) (None ∷ held) = Hold known names held
Hold known _ _ = ⊥

-- known files stay known, and each name has the bytes that this function gives for it and for those before; the names that can be
-- written are the same
abbrev pub Leaves : Option FileSystem → Option FileSystem → (Text → Option (List ℕ) → Option (List ℕ)) → Type 0
Leaves known after holds =
    (f : FileSystem) → known ≡ Some f
    → (g : FileSystem) × (after ≡ Some g) × ((name : Text) → g.holds name ≡ holds name (f.holds name)) × (g.takes ≡ f.takes)

-- ---- outcomes

-- the status of a run of at most n steps, and its registers and its end as the debugger prints `r` and a move there
abbrev pub run_given : ℕ → State → ℕ × List ℕ
run_given n s =
    let end = state_after (stop_place n s) s in
    (run_status end.status, registers_text end ++ move_text (stop_place n s) end)

-- a policy in a document and the program of its image, which after n steps on the roots in the others has the status that is due for the
-- policy's verdict
pub record ReviewRun (chosen : Images) (n : ℕ) (document review : List ℕ) (namespace params : Option (List ℕ)) (due : Verdict → Status)
    : Type 0 where
  pub policy : Policy
  pub is_policy : policy_in document ≡ Ok policy
  pub trees : PolicyTree
  pub compiles : Compiles policy (Ok trees)
  pub image : Image
  pub program : IsProgram policy.failure_policy trees image
  pub is_chosen : chosen policy image
  pub roots : Roots
  pub are_given : contents_given (Some review) namespace params ≡ Ok (started roots)
  pub verdict : Verdict
  pub is_verdict : verdict ≡ decision_of policy.failure_policy trees roots
  pub status : (state_after n (start_state image (started roots))).status ≡ due verdict

-- the outcome of a command, its status and its bytes for standard output or a refusal, by the contents of the files that it reads,
-- if no file is to be written
pub data Gives (chosen : Images) (n : ℕ) : Text → List (Option (List ℕ)) → Result (ℕ × List ℕ) Refusal → Type 0 where
  run : {file : List ℕ} {image : Image} → image_in file ≡ Ok image
      → Gives chosen n (codes "run-image") (Some file ∷ []) (Ok (run_given n (start_state image null_values)))
  not_run : {file : List ℕ} {e : LoadError} → image_in file ≡ Err e
      → Gives chosen n (codes "run-image") (Some file ∷ []) (Err (CodeImage e))
  listed : {file text : List ℕ} {image : Image} → image_in file ≡ Ok image → Listing image.code text
      → Gives chosen n (codes "list") (Some file ∷ []) (Ok (0, text))
  not_listed : {file : List ℕ} {e : LoadError} → image_in file ≡ Err e → Gives chosen n (codes "list") (Some file ∷ []) (Err (CodeImage e))
  -- of a review the status is 0 if the request is allowed, and else 1; the text is the response in a line
  replied : {document review : List ℕ} {namespace params : Option (List ℕ)}
      (run : ReviewRun chosen n document review namespace params (λ v. Exited (outcome_word v.outcome)))
      → Gives chosen n (codes "review") (Some document ∷ Some review ∷ namespace ∷ params ∷ [])
      (Ok (if is_allowed run.verdict.outcome then 0 else 1, response_of run.policy run.verdict (uid_in review) ++ 10 ∷ []))
  unended : {document review : List ℕ} {namespace params : Option (List ℕ)}
      (run : ReviewRun chosen n document review namespace params (λ v. Running))
      → n < steps_per_visit * policy_work run.policy.failure_policy run.trees run.roots
      → Gives chosen n (codes "review") (Some document ∷ Some review ∷ namespace ∷ params ∷ []) (Err (CodeRun OutOfSteps))
  stopped : {document review : List ℕ} {namespace params : Option (List ℕ)}
      (run : ReviewRun chosen n document review namespace params (λ v. Fault F8))
      → (charge_limit < (started run.roots).charge + charge_per_unit * policy_spent run.policy.failure_policy run.trees run.roots)
      ⊎ IsDeepPolicy run.policy.failure_policy run.trees run.roots
      → Gives chosen n (codes "review") (Some document ∷ Some review ∷ namespace ∷ params ∷ []) (Err (CodeRun OverLimit))
  no_policy : {document : List ℕ} {others : List (Option (List ℕ))} {e : PolicyRefusal} → IsPolicyRefused document e
      → Gives chosen n (codes "review") (Some document ∷ others) (Err (CodeRun (PolicyRefused e)))
  no_review : {document review : List ℕ} {namespace params : Option (List ℕ)} {p : Policy} {trees : PolicyTree} {e : RunError}
      → policy_in document ≡ Ok p → Compiles p (Ok trees) → contents_given (Some review) namespace params ≡ Err e
      → Gives chosen n (codes "review") (Some document ∷ Some review ∷ namespace ∷ params ∷ []) (Err (CodeRun e))
  not_compiled : {file : List ℕ} {e : PolicyRefusal} → IsPolicyRefused file e
      → Gives chosen n (codes "compile") (Some file ∷ []) (Err (CodePolicy e))
  no_text : {file : List ℕ} → (IsUtf8 file → ⊥) → Gives chosen n (codes "asm") (Some file ∷ []) (Err CodeText)
  no_program : {text : List ℕ} {e : AsmError} → IsUtf8 text → Assembles (input_lines text) (Err e)
      → Gives chosen n (codes "asm") (Some text ∷ []) (Err (Program e))
  no_code : {text code : List ℕ} {e : LoadError} → IsUtf8 text → Assembles (input_lines text) (Ok code) → image_from First code [] ≡ Err e
      → Gives chosen n (codes "asm") (Some text ∷ []) (Err (CodeImage e))
  no_image : {file : List ℕ} {documents : List (Option (List ℕ))} {e : LoadError} → image_in file ≡ Err e
      → Gives chosen n (codes "debug") (Some file ∷ documents) (Err (CodeImage e))
  no_roots : {file : List ℕ} {review namespace params : Option (List ℕ)} {image : Image} {e : RunError} → image_in file ≡ Ok image
      → contents_given review namespace params ≡ Err e
      → Gives chosen n (codes "debug") (Some file ∷ review ∷ namespace ∷ params ∷ []) (Err (CodeRun e))

-- the image that a command makes of a file: a chosen one of a policy; or one of version 1 and without constants of a program
pub data Makes (chosen : Images) : Text → List ℕ → Image → Type 0 where
  compiled : {file : List ℕ} {p : Policy} {trees : PolicyTree} {image : Image} → policy_in file ≡ Ok p → Compiles p (Ok trees)
      → IsProgram p.failure_policy trees image → chosen p image
      → Makes chosen (codes "compile") file image
  assembled : {text code : List ℕ} {image : Image} → IsUtf8 text → Assembles (input_lines text) (Ok code)
      → image_from First code [] ≡ Ok image → Makes chosen (codes "asm") text image

-- ---- effects

-- the effect of a command on the files, and its outcome; a session has none but its refusals
pub data CarriesOut (chosen : Images) (rows : List Row) (old new : Option FileSystem) : Text → Result (ℕ × List ℕ) Refusal
    → Type 0 where
  -- a file cannot be read, and those before it hold some bytes
  unread : {command : Text} (before after : List (Option Text)) (name : Text) (held : List (Option (List ℕ)))
      → files_read command rows ≡ before ++ Some name ∷ after → Hold old before held → HasFile old name None → new ≡ old
      → CarriesOut chosen rows old new command (Err File)
  given : {command : Text} {held : List (Option (List ℕ))} {outcome : Result (ℕ × List ℕ) Refusal} → Hold old (files_read command rows) held
      → Gives chosen (steps_of rows) command held outcome → new ≡ old → CarriesOut chosen rows old new command outcome
  -- the file of an image is written, or cannot be
  made : {command : Text} {file : List ℕ} {image : Image} → Hold old (files_read command rows) (Some file ∷ [])
      → Makes chosen command file image → ((f : FileSystem) → old ≡ Some f → f.takes (value (codes "IMAGE") rows) ≡ true)
      → Leaves old new (λ name held. if bytes_eq name (value (codes "IMAGE") rows) then Some (file_of image) else held)
      → CarriesOut chosen rows old new command (Ok (0, []))
  unwritten : {command : Text} {file : List ℕ} {image : Image} → Hold old (files_read command rows) (Some file ∷ [])
      → Makes chosen command file image → ((f : FileSystem) → old ≡ Some f → f.takes (value (codes "IMAGE") rows) ≡ false)
      → Leaves old new (λ name held. held)
      → CarriesOut chosen rows old new command (Err File)
  -- an allocation fails
  no_memory : {command : Text} → new ≡ old → CarriesOut chosen rows old new command (Err Memory)
  no_memory_to_make : {command : Text} → (command ≡ codes "compile") ⊎ (command ≡ codes "asm") → Leaves old new (λ name held. held)
      → CarriesOut chosen rows old new command (Err Memory)

-- the end of a session: status 0, or the refusal if it broke off
abbrev pub session_ending : Result (Unit {0}) SessionError → Ending
session_ending (Ok u) = Ok 0
session_ending (Err ReadFailed) = Err Input
session_ending (Err WriteFailed) = Err Output
session_ending (Err session_error.Memory) = Err Memory

-- the effect of a command, and how it ends
pub data Does (chosen : Images) (rows : List Row) (old new : System) : Text → Ending → Type 0 where
  refused : {command : Text} {r : Refusal} → CarriesOut chosen rows old.files new.files command (Err r) → new.input ≡ old.input
      → new.output ≡ old.output → Does chosen rows old new command (Err r)
  written : {command : Text} {status : ℕ} {out : List ℕ} → CarriesOut chosen rows old.files new.files command (Ok (status, out))
      → new.input ≡ old.input → WritesBytes old.output new.output out → Does chosen rows old new command (Ok status)
  cut : {command : Text} {status : ℕ} {out : List ℕ} → CarriesOut chosen rows old.files new.files command (Ok (status, out))
      → new.input ≡ old.input → WritesPart old.output new.output out → Does chosen rows old new command (Err File)
  -- a session, which reads and writes while it runs
  session : (file : List ℕ) (review namespace params : Option (List ℕ)) {image : Image} {values : Contents}
      (result : Result (Unit {0}) SessionError)
      → Hold old.files (files_read (codes "debug") rows) (Some file ∷ review ∷ namespace ∷ params ∷ [])
      → image_in file ≡ Ok image → contents_given review namespace params ≡ Ok values
      → IsSession (start_state image values) old.input new.input old.output new.output result → new.files ≡ old.files
      → Does chosen rows old new (codes "debug") (session_ending result)

-- the effect of the words that are given, if any are
pub data WordsEffect (chosen : Images) (given : Given) (old new : System) : Ending → Type 0 where
  not_given : given ≡ Err InvalidArguments → new ≡ old → WordsEffect chosen given old new (Err Words)
  not_taken : {words : List Text} → given ≡ Ok words → (fault_of celbpf_app words ≡ [] → ⊥) → new ≡ old
      → WordsEffect chosen given old new (Err Words)
  no_memory_for_words : (given ≡ Err InvalidArguments → ⊥) → new ≡ old → WordsEffect chosen given old new (Err Memory)
  does : {words : List Text} {name : Text} {rows : List Row} {ending : Ending} → given ≡ Ok words → fault_of celbpf_app words ≡ []
      → subcommand_of celbpf_app words ≡ Some (name, rows) → Does chosen rows old new (command_of name) ending
      → WordsEffect chosen given old new ending
