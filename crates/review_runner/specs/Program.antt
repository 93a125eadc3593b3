-- The program's effect: its status, what it reads and writes, and the files.
use Rattle.std.specs.Prelude.{◌≡◌, ℕ, List, [], Option, Some, Result, Ok, Err}
use Rattle.streams.specs.Streams.{Stream}
use Rattle.streams.specs.declared.failed.Failed.{Failed}
use Rattle.review_runner.specs.Commands.{entered, faults}
use Rattle.review_runner.specs.Debugging.{DebugsByResult}
use Rattle.review_runner.specs.Effect.{WordsEffect}
use Rattle.host.specs.FileSystem.{FileSystem}
use Rattle.review_runner.specs.Order.{DocumentFiles, Order, debug, order_in}
use Rattle.review_runner.specs.Output.{OrderOutcome, Report}
use Rattle.review_runner.specs.Performing.{PerformsBy}
use Rattle.admission.specs.Standing.{Images}
use Rattle.review_runner.specs.declared.done.Done.{Done}
use Rattle.cli.specs.declared.refusal.Refusal.{Refusal, TheVariants.File}
use Rattle.streams.specs.Writing.{WritesBytes, WritesPart}
use Rattle.cli.specs.Ending.{Asks, AsksNothing, Given, System, Ending, ProgramEnds, ending_status, ending_line}

-- ---- words

-- the words are accepted, and give this order
abbrev pub AsksOrder : Given → Order → Type 0
AsksOrder given wanted = Asks faults (λ words. order_in (entered words)) given (Some wanted)

-- ---- the program

-- the end of a session: status 0, or a refusal
abbrev pub ending_of : Result (Unit {0}) Refusal → Ending
ending_of (Ok u) = Ok 0
ending_of (Err r) = Err r

-- the result of an order is written to standard output; a failed write is a refusal
pub data Delivers (old new : Stream) : OrderOutcome → Ending → Type 0 where
  refused : {r : Refusal} → new ≡ old → Delivers old new (Err r) (Err r)
  whole : {report : Report} → WritesBytes old new report.out → Delivers old new (Ok report) (Ok report.status)
  cut : {report : Report} → WritesPart old new report.out → Delivers old new (Ok report) (Err File)

-- the result of an order is written
pub record AnswersOrder (chosen : Images) (files files_after : Option FileSystem) (wanted : Order) (output output_after : Stream)
    (ending : Ending) : Type 0 where
  pub outcome : OrderOutcome
  pub performs : PerformsBy chosen files wanted files_after outcome
  pub delivers : Delivers output output_after outcome ending

-- the effect of an order
pub data DoesOrder (chosen : Images) (old new : System) : Order → Ending → Type 0 where
  -- an order whose output is written
  order : {wanted : Order} {ending : Ending} → AnswersOrder chosen old.files new.files wanted old.output new.output ending
      → new.input ≡ old.input → DoesOrder chosen old new wanted ending
  -- a session, which writes its output while it runs
  session : {image : List ℕ} {documents : DocumentFiles} (result : Result (Unit {0}) Refusal)
      → DebugsByResult old.files image documents old.input new.input old.output new.output result
      → new.files ≡ old.files → DoesOrder chosen old new (debug image documents) (ending_of result)

-- the effect of the words
pub data ProgramEffect (chosen : Images) (given : Given) (old new : System) : Ending → Type 0 where
  nothing : {r : Refusal} → AsksNothing faults given r → new ≡ old → ProgramEffect chosen given old new (Err r)
  does_order : {wanted : Order} {ending : Ending} → AsksOrder given wanted → DoesOrder chosen old new wanted ending
      → ProgramEffect chosen given old new ending

-- the program ends with this status, after the effect of the words
abbrev pub ProgramResult : Images → Given → System → System → Stream → Stream → ℕ → Type 0
ProgramResult chosen given old new errors errors_after status = ProgramEnds (WordsEffect chosen given old new) errors errors_after status

-- ---- parts

-- these bytes were written, or a write failed; without bytes nothing is written
abbrev pub Puts : Stream → Stream → List ℕ → Result (Unit {0}) Failed → Type 0
Puts old new bytes (Ok u) = WritesBytes old new bytes × (bytes ≡ [] → new ≡ old)
Puts old new bytes (Err e) = WritesPart old new bytes

-- the line for standard error, and the status
pub record LeavesEnding (done : Done) (ending : Ending) : Type 0 where
  pub status : done.status ≡ ending_status ending
  pub line : done.err.items ≡ ending_line ending

-- an ending of this kind: its line remains to be written, or it is a refusal
abbrev pub EndsBy : (Ending → Type 0) → Result Done Refusal → Type 0
EndsBy does (Ok done) = (ending : Ending) × does ending × LeavesEnding done ending
EndsBy does (Err r) = does (Err r)
