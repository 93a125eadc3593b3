-- How the program ends: after the lines, after a text, or by a start that is refused.
use Rattle.std.specs.Prelude.{◌≡◌, ℕ, ◌⊎◌, Bool, true, false, List, Result, Ok, Err}
use Rattle.clap.specs.Words.{Text}
use Rattle.streams.specs.Streams.{Stream}
use Rattle.streams.specs.Writing.{WritesBytes, WritesPart}
use Rattle.streams.specs.declared.session_error.SessionError.{SessionError}
use Rattle.cli.specs.Ending.{Ending, WritesError, ending_status}
use Rattle.cli.specs.Refusals.{refusal_line, refusal_status, session_refusal}
use Rattle.cli.specs.declared.refusal.Refusal.TheVariants.{Memory, Output}
use Rattle.line_answers.specs.AnsweredLines.{AnswersInput}
use Rattle.line_answers.specs.Lines.{LineTexts}
use Rattle.line_answers.specs.Telling.{TellsInput}
use Rattle.gatekeeper_runner.specs.Cluster.Starting.{fault_line}
use Rattle.gatekeeper_runner.specs.declared.start_refusal.StartRefusal.{StartRefusal, TheVariants.Plain, TheVariants.Cluster}

-- ---- lines

-- the status after all lines were answered, by whether it reports answers that do not allow, and by whether all allow:
-- 1 exactly if it reports them and there is one
abbrev pub answers_status : Bool → Bool → ℕ
answers_status false all = 0
answers_status true true = 0
answers_status true false = 1

-- the lines are answered to the end of the input, or until a read or a write fails
abbrev pub ending_of : Bool → Result Bool SessionError → Ending
ending_of reports (Ok all) = Ok (answers_status reports all)
ending_of reports (Err e) = Err (session_refusal e)

-- the lines are answered; with --verbose the refused ones are reported on standard error, else nothing is
abbrev pub AnswersOrTells : Bool → LineTexts → Stream → Stream → Stream → Stream → Stream → Stream → Result Bool SessionError → Type 0
AnswersOrTells false texts r r_after w w_after e e_after result = AnswersInput texts r r_after w w_after result × (e_after ≡ e)
AnswersOrTells true texts r r_after w w_after e e_after result = TellsInput texts r r_after w w_after e e_after result

-- the lines are answered; then the program ends with this status, and with a line of standard error if a read or a write of
-- an answer failed
pub record EndsLines (verbose reports : Bool) (texts : LineTexts) (r r_after w w_after e e_after : Stream) (status : ℕ) : Type 0 where
  pub result : Result Bool SessionError
  pub told : Stream
  pub answers : AnswersOrTells verbose texts r r_after w w_after e told result
  pub status_is : status ≡ ending_status (ending_of reports result)
  pub says : WritesError told e_after (ending_of reports result)

-- ---- texts

-- the text is written, or a beginning of it if a write fails
pub data TellsText (text : Text) (w w_after : Stream) : Ending → Type 0 where
  all : WritesBytes w w_after text → TellsText text w w_after (Ok 0)
  part : WritesPart w w_after text → TellsText text w w_after (Err Output)

-- standard error took the bytes, or a beginning of them if a write failed
abbrev pub TellsBytes : Stream → Stream → List ℕ → Type 0
TellsBytes old new bytes = WritesBytes old new bytes ⊎ WritesPart old new bytes

-- ---- starts

-- how a start that is refused ends: with a status, and a line of standard error, which reports that memory ran out if
-- that happened while the line was made
abbrev pub TellsStart : Stream → Stream → ℕ → StartRefusal → Type 0
TellsStart e e_after status (Plain r) = (status ≡ refusal_status r) × WritesError e e_after (Err r)
TellsStart e e_after status (Cluster fault) =
    (status ≡ 3) × (TellsBytes e e_after (fault_line fault) ⊎ TellsBytes e e_after (refusal_line Memory))

-- a start is refused, and nothing is read or written but its line; or it gives what the rest is done with
pub data StartsThen {A : Type 0} (starts : Result A StartRefusal → Type 0) (does : A → Type 0) (r r_after w w_after e e_after : Stream)
    (status : ℕ) : Type 0 where
  not_started : {why : StartRefusal} → starts (Err why) → r_after ≡ r → w_after ≡ w → TellsStart e e_after status why
      → StartsThen starts does r r_after w w_after e e_after status
  started : (x : A) → starts (Ok x) → does x → StartsThen starts does r r_after w w_after e e_after status
