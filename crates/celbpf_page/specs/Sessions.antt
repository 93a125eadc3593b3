-- Debugging sessions on documents in memory.
use Rattle.std.specs.Prelude.{◌≡◌, ℕ, false, List, Option, Result, Ok, Err, IsOk}
use Rattle.loader.specs.Contents.{Image as ImageContents}
use Rattle.loader.specs.Format.{image_in}
use Rattle.value_store.specs.Placing.{Contents}
use Rattle.bpf_machine.specs.State.{State, start_state}
use Rattle.streams.specs.Lines.{input_lines, readable}
use Rattle.debugger.specs.Answers.{Line}
use Rattle.debugger.specs.Session.{dialogue_of, says_memory, session_text}
use Rattle.debugger.specs.Transcript.{lines_of}
use Rattle.admission.specs.Reviews.{contents_given}
use Rattle.cli.specs.declared.refusal.Refusal.{Refusal, TheVariants.Image, TheVariants.Run, TheVariants.Memory}
use Rattle.celbpf_calls.specs.Calls.{given}
use Rattle.celbpf_page.specs.Images.{WritesText}
use Rattle.celbpf_page.specs.declared.debugged.Debugged.{Debugged}

-- ---- documents

-- the file of an image, and the documents on which it runs
pub record SessionDocuments : Type 0 where
  pub image : List ℕ
  pub review : Option (List ℕ)
  pub namespace : Option (List ℕ)
  pub params : Option (List ℕ)

-- documents of which no bytes mean that there is none
abbrev pub documents_given : List ℕ → List ℕ → List ℕ → List ℕ → SessionDocuments
documents_given image review namespace params =
    record { image = image; review = given review; namespace = given namespace; params = given params }

-- documents of the code
abbrev pub documents_debugged : Debugged → SessionDocuments
documents_debugged d = documents_given d.image.now d.review.now d.namespace.now d.params.now

-- ---- sessions

-- the session begins in this state
pub record StartsIn (d : SessionDocuments) (s : State) : Type 0 where
  pub image : ImageContents
  pub contents : Contents
  pub image_is : image_in d.image ≡ Ok image
  pub contents_are : contents_given d.review d.namespace d.params ≡ Ok contents
  pub state_is : s ≡ start_state image contents

-- why there is no session: the file holds no image, or else the documents give no roots; or an allocation failed, if the
-- file holds an image
abbrev pub IsUnstarted : SessionDocuments → Refusal → Type 0
IsUnstarted d (Image e) = image_in d.image ≡ Err e
IsUnstarted d (Run e) = IsOk (image_in d.image) × (contents_given d.review d.namespace d.params ≡ Err e)
IsUnstarted d Memory = IsOk (image_in d.image)
IsUnstarted d _ = ⊥

-- a session begins with this result of the code, as this state; or why it does not
abbrev pub StartsDebugging : {A : Type 0} → SessionDocuments → (A → State) → Result A Refusal → Type 0
StartsDebugging d see (Ok a) = StartsIn d (see a)
StartsDebugging d see (Err r) = IsUnstarted d r

-- the text of a session from this state on that the lines of these commands lead, some of which may lack memory; if none
-- is told of that, it is the session's text
pub record AreReplies (s : State) (commands text : List ℕ) : Type 0 where
  pub lines : List Line
  pub lines_are : lines_of lines ≡ input_lines (readable commands)
  pub text_is : text ≡ (dialogue_of s lines).text
  pub whole : says_memory text ≡ false → text ≡ session_text s commands

-- the replies to the commands, or why there is no session
abbrev pub IsSessionText : SessionDocuments → List ℕ → Result (List ℕ) Refusal → Type 0
IsSessionText d commands (Ok text) = (s : State) × StartsIn d s × AreReplies s commands text
IsSessionText d commands (Err r) = IsUnstarted d r

-- the replies to the commands are written
abbrev pub DebugsToRoom : SessionDocuments → List ℕ → ℕ → List ℕ → List ℕ → ℕ → Type 0
DebugsToRoom d commands status before after n =
    (text : Result (List ℕ) Refusal) × IsSessionText d commands text × WritesText text status before after n
