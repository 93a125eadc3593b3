-- What a program is given, and how it ends.
use Rattle.std.specs.Prelude.{◌≡◌, ℕ, List, [], map, ◌⊎◌, Option, Result, Ok, Err, Vec, String, string_bytes}
use Rattle.std.specs.declared.alloc.Global.{Global}
use Rattle.clap.specs.Words.{Kinds, Text}
use Rattle.streams.specs.Streams.{Stream}
use Rattle.streams.specs.Writing.{WritesBytes, WritesPart}
use Rattle.host.specs.FileSystem.{FileSystem}
use Rattle.cli.specs.Refusals.{order_refusal, refusal_line, refusal_status}
use Rattle.host.specs.declared.order_error.OrderError.{OrderError}
use Rattle.cli.specs.declared.refusal.Refusal.{Refusal, TheVariants.Memory, TheVariants.Words}

-- the words from the system, with the program's name first, or why there are none
abbrev pub Given : Type 0
Given = Result (List Text) OrderError

-- words that the code is given
abbrev pub given_of : Result (Vec (String Global) Global) OrderError → Given
given_of (Ok words) = Ok (map string_bytes words.items)
given_of (Err e) = Err e

-- the words are accepted, and give this order; both are stated for given functions
pub record Asks {A : Type 0} (faults : List Text → Kinds) (order_of : List Text → A) (given : Given) (order : A) : Type 0 where
  pub words : List Text
  pub are_given : given ≡ Ok words
  pub are_taken : faults words ≡ []
  pub asked : order_of words ≡ order

-- the words give no order
pub data AsksNothing (faults : List Text → Kinds) : Given → Refusal → Type 0 where
  no_words : {e : OrderError} → AsksNothing faults (Err e) (order_refusal e)
  not_taken : {words : List Text} → (faults words ≡ [] → ⊥) → AsksNothing faults (Ok words) Words
  no_memory : {words : List Text} → AsksNothing faults (Ok words) Memory

-- the files, standard input and standard output
pub record System : Type 0 where
  pub files : Option FileSystem
  pub input : Stream
  pub output : Stream

-- these three together
abbrev pub system : Option FileSystem → Stream → Stream → System
system files input output = record { files = files; input = input; output = output }

-- the end of a program: a status, or a refusal
abbrev pub Ending : Type 0
Ending = Result ℕ Refusal

-- the exit status
abbrev pub ending_status : Ending → ℕ
ending_status (Ok status) = status
ending_status (Err r) = refusal_status r

-- the line of a refusal, else nothing
abbrev pub ending_line : Ending → List ℕ
ending_line (Ok status) = []
ending_line (Err r) = refusal_line r

-- standard error received the line of a refusal, or the beginning of it if a write failed
abbrev pub WritesError : Stream → Stream → Ending → Type 0
WritesError old new ending = WritesBytes old new (ending_line ending) ⊎ WritesPart old new (ending_line ending)

-- a program ends with this status, after this effect
pub record ProgramEnds (does_until : Ending → Type 0) (errors errors_after : Stream) (status : ℕ) : Type 0 where
  pub ending : Ending
  pub does : does_until ending
  pub status_is : status ≡ ending_status ending
  pub says : WritesError errors errors_after ending
