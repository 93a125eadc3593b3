-- Debugging an image in a file, on the roots of documents in files.
use Rattle.std.specs.Prelude.{◌≡◌, ℕ, List, ◌⊎◌, Option, option_map, Result, Ok, Err}
use Rattle.loader.specs.Contents.{Image}
use Rattle.loader.specs.Format.{image_in}
use Rattle.value_store.specs.Placing as store
use Rattle.bpf_machine.specs.State.{State, start_state}
use Rattle.streams.specs.declared.session_error.SessionError.{SessionError, TheVariants.ReadFailed, TheVariants.WriteFailed}
use Rattle.streams.specs.declared.session_error.SessionError.TheVariants as session_error
use Rattle.streams.specs.Streams.{Stream}
use Rattle.debugger.specs.Transcript.{IsSession}
use Rattle.host.specs.FileSystem.{FileSystem, FileRead, IsReading}
use Rattle.review_runner.specs.Opening.{IsUnrefused, opened_by}
use Rattle.review_runner.specs.Order.{DocumentFiles}
use Rattle.cli.specs.Refusals.{file_refusal, run_refusal}
use Rattle.admission.specs.Reviews.{contents_given}
use Rattle.host.specs.declared.file_error.FileError.{FileError}
use Rattle.review_runner.specs.declared.documents.held_files.HeldFiles.{HeldFiles}
use Rattle.cli.specs.declared.refusal.Refusal.{Refusal}
use Rattle.cli.specs.declared.refusal.Refusal.TheVariants.{Words, Image as CodeImage, File, Text, Program, Policy, Run, Input, Output, Memory}
use Rattle.admission.specs.declared.run_error.RunError.{RunError}
use Rattle.cli.specs.GivenFiles.{ReadingGiven, IsReadingGiven}

-- ---- files

-- possible results of reading the file of an image or a policy, and the files of the documents
pub record Readings (known : Option FileSystem) (name : List ℕ) (files : DocumentFiles) : Type 0 where
  pub subject : FileRead
  pub review : ReadingGiven
  pub namespace : ReadingGiven
  pub params : ReadingGiven
  pub is_subject : IsReading known name subject
  pub is_review : IsReadingGiven known files.review review
  pub is_namespace : IsReadingGiven known files.namespace namespace
  pub is_params : IsReadingGiven known files.params params

-- the bytes of the files
pub record SessionFiles : Type 0 where
  pub subject : List ℕ
  pub review : Option (List ℕ)
  pub namespace : Option (List ℕ)
  pub params : Option (List ℕ)

-- file contents of the code
abbrev pub held_view : HeldFiles → SessionFiles
held_view h = record {
  subject = h.subject.items;
  review = option_map (λ b. b.items) h.review;
  namespace = option_map (λ b. b.items) h.namespace;
  params = option_map (λ b. b.items) h.params;
}

-- a result of the code
abbrev pub held_of : Result HeldFiles FileError → Result SessionFiles FileError
held_of (Ok h) = Ok (held_view h)
held_of (Err e) = Err e

-- these bytes, or the first failed read in the order of the words
abbrev pub held_by : FileRead → ReadingGiven → ReadingGiven → ReadingGiven → Result SessionFiles FileError
held_by (Ok subject) (Ok review) (Ok namespace) (Ok params) =
    Ok (record { subject = subject; review = review; namespace = namespace; params = params })
held_by (Ok subject) (Ok review) (Ok namespace) (Err e) = Err e
held_by (Ok subject) (Ok review) (Err e) params = Err e
held_by (Ok subject) (Err e) namespace params = Err e
held_by (Err e) review namespace params = Err e

-- the files with these names have these contents, or a read failed
pub record HoldsFiles (known : Option FileSystem) (name : List ℕ) (files : DocumentFiles)
    (held : Result SessionFiles FileError) : Type 0 where
  pub readings : Readings known name files
  pub are : held_by readings.subject readings.review readings.namespace readings.params ≡ held

-- ---- the start

-- the image in the files, or why there is none
abbrev pub image_of : Result SessionFiles FileError → Result Image Refusal
image_of (Ok held) = opened_by (image_in held.subject)
image_of (Err e) = Err (file_refusal e)

-- the state at the start of this image on these values, or why there are none
abbrev pub started : Image → Result store.Contents RunError → Result State Refusal
started image (Ok values) = Ok (start_state image values)
started image (Err e) = Err (run_refusal e)

-- the state at the start on the documents in the files, or why there is no image
abbrev pub started_on : Result Image Refusal → SessionFiles → Result State Refusal
started_on (Ok image) held = started image (contents_given held.review held.namespace held.params)
started_on (Err r) held = Err r

-- the state at the start of a session with these files, or the first refusal: of the files, the image, or the
-- documents
abbrev pub start_of : Result SessionFiles FileError → Result State Refusal
start_of (Ok held) = started_on (opened_by (image_in held.subject)) held
start_of (Err e) = Err (file_refusal e)

-- the start is the one that is due; or an allocation failed, if neither a file nor the image is refused
abbrev pub SessionStarts : {A : Type 0} → (A → State) → Result SessionFiles FileError → Result A Refusal → Type 0
SessionStarts see held (Ok a) = start_of held ≡ Ok (see a)
SessionStarts see held (Err Memory) = IsUnrefused (image_of held)
SessionStarts see held (Err r) = start_of held ≡ Err r

-- the start of a session, for any contents of the files
pub record StartsSession (known : Option FileSystem) (name : List ℕ) (files : DocumentFiles) (result : Result State Refusal) : Type 0 where
  pub held : Result SessionFiles FileError
  pub holds : HoldsFiles known name files held
  pub starts : SessionStarts (λ s. s) held result

-- ---- sessions

-- a session with the image in the file with this name, on the roots of the documents in these files
pub record Debugs (known : Option FileSystem) (name : List ℕ) (files : DocumentFiles) (r r_after w w_after : Stream)
    (result : Result (Unit {0}) SessionError) : Type 0 where
  pub state : State
  pub starts : StartsSession known name files (Ok state)
  pub is_session : IsSession state r r_after w w_after result

-- there is no session, and nothing was read or written
pub record DebugsNone (known : Option FileSystem) (name : List ℕ) (files : DocumentFiles) (r r_after w w_after : Stream)
    (refusal : Refusal) : Type 0 where
  pub refused : StartsSession known name files (Err refusal)
  pub none_read : r_after ≡ r
  pub none_written : w_after ≡ w

-- what was read and written, for each result
abbrev pub DebugsByResult : Option FileSystem → List ℕ → DocumentFiles → Stream → Stream → Stream → Stream
    → Result (Unit {0}) Refusal → Type 0
DebugsByResult known name files r r_after w w_after (Ok u) = Debugs known name files r r_after w w_after (Ok u)
DebugsByResult known name files r r_after w w_after (Err Input) = Debugs known name files r r_after w w_after (Err ReadFailed)
DebugsByResult known name files r r_after w w_after (Err Output) = Debugs known name files r r_after w w_after (Err WriteFailed)
DebugsByResult known name files r r_after w w_after (Err Memory) =
    DebugsNone known name files r r_after w w_after Memory ⊎ Debugs known name files r r_after w w_after (Err session_error.Memory)
DebugsByResult known name files r r_after w w_after (Err File) = DebugsNone known name files r r_after w w_after File
DebugsByResult known name files r r_after w w_after (Err (CodeImage e)) = DebugsNone known name files r r_after w w_after (CodeImage e)
DebugsByResult known name files r r_after w w_after (Err (Run e)) = DebugsNone known name files r r_after w w_after (Run e)
DebugsByResult known name files r r_after w w_after (Err Words) = ⊥
DebugsByResult known name files r r_after w w_after (Err Text) = ⊥
DebugsByResult known name files r r_after w w_after (Err (Program e)) = ⊥
DebugsByResult known name files r r_after w w_after (Err (Policy e)) = ⊥
