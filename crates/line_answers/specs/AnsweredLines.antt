-- What is read and written when lines are answered. Each definition takes `texts`, what may be written for a line.
use Rattle.std.specs.Prelude.{◌≡◌, ℕ, ◌<◌, ◌≤◌, ◌⊎◌, ◌&&◌, Bool, true, false, List, [], ◌∷◌, ◌++◌, length, take, drop, Option, Some, Result, Ok, Err}
use Rattle.streams.specs.Lines.{cut, input_lines, readable}
use Rattle.streams.specs.Streams.{AddsBytes, Stream}
use Rattle.streams.specs.Failures.{FailsByResult}
use Rattle.streams.specs.declared.session_error.SessionError.{SessionError, TheVariants.ReadFailed, TheVariants.WriteFailed, TheVariants.Memory}
use Rattle.line_answers.specs.Lines.{KeepsLine, LineTexts, passes}
use Rattle.line_answers.specs.declared.line.Line.{Line}

-- lines, and the joined answers that may be written for them
abbrev pub JoinedTexts : Type 1
JoinedTexts = List (List ℕ) → List ℕ → Type 0

-- the joined answers to lines, and whether all of them pass
pub data AnswersEach (texts : LineTexts) : List (List ℕ) → List ℕ → Bool → Type 0 where
  none : AnswersEach texts [] [] true
  more : {lines : List (List ℕ)} {text : List ℕ} {line answer : List ℕ} {all : Bool} → AnswersEach texts lines text all
      → texts line answer
      → AnswersEach texts (lines ++ line ∷ []) (text ++ answer) (all && passes answer)

-- the joined answers to lines, if all pass or if not all do
abbrev pub answered : LineTexts → Bool → JoinedTexts
answered texts all lines text = AnswersEach texts lines text all

-- all lines of the input were answered, with the joined answers that `each` gives
pub record AnsweredAllLines (each : JoinedTexts) (input before : List ℕ) (left written : Option (List ℕ)) : Type 0 where
  pub all_left : left ≡ Some (drop (length (readable input)) input)
  pub text : List ℕ
  pub all_lines : each (input_lines (readable input)) text
  pub all_written : written ≡ Some (before ++ text)

-- `read` bytes were read, and the lines that ended among them were answered
pub record AnsweredSomeLines (each : JoinedTexts) (input before : List ℕ) (left written : Option (List ℕ)) : Type 0 where
  pub read : ℕ
  pub within : read ≤ length (readable input)
  pub some_left : left ≡ Some (drop read input)
  pub text : List ℕ
  pub some_lines : each (cut (take read input)).0 text
  pub some_written : written ≡ Some (before ++ text)

-- `read` bytes were read, up to a line's end: the answers to the lines before it were written whole, and its own except
-- for a rest
pub record AnsweredPartOfLines (texts : LineTexts) (each : JoinedTexts) (input before : List ℕ)
    (left written : Option (List ℕ)) : Type 0 where
  pub read : ℕ
  pub within : read ≤ length (readable input)
  pub line_read : ((cut (take read input)).1 ≡ []) ⊎ (read ≡ length (readable input))
  pub part_left : left ≡ Some (drop read input)
  pub lines : List (List ℕ)
  pub last : List ℕ
  pub lines_are : lines ++ last ∷ [] ≡ input_lines (take read input)
  pub text : List ℕ
  pub answered : each lines text
  pub part : List ℕ
  pub rest : List ℕ
  pub answers : texts last (part ++ rest)
  pub is_cut : 0 < length rest
  pub part_written : written ≡ Some (before ++ (text ++ part))

-- what was read and written, by the result: whether all answers pass; `ReadFailed` if a read failed, `WriteFailed` if a
-- write failed
abbrev pub AnswersByResult : LineTexts → (Bool → JoinedTexts) → List ℕ → List ℕ → Option (List ℕ) → Option (List ℕ)
    → Result Bool SessionError → Type 0
AnswersByResult texts each input before left written (Ok all) = AnsweredAllLines (each all) input before left written
AnswersByResult texts each input before left written (Err ReadFailed) =
    (all : Bool) × AnsweredSomeLines (each all) input before left written
AnswersByResult texts each input before left written (Err WriteFailed) =
    (all : Bool) × AnsweredPartOfLines texts (each all) input before left written
AnswersByResult texts each input before left written (Err Memory) = ⊥

-- the result without whether all answers pass
abbrev pub ended : Result Bool SessionError → Result (Unit {0}) SessionError
ended (Ok all) = Ok tt
ended (Err e) = Err e

-- what answering does to a reader and a writer
pub record AnswersInput (texts : LineTexts) (r r_after w w_after : Stream) (result : Result Bool SessionError) : Type 0 where
  pub told : (input before : List ℕ) → r.bytes ≡ Some input → w.bytes ≡ Some before
      → AnswersByResult texts (answered texts) input before r_after.bytes w_after.bytes result
  pub fails : FailsByResult r.failed r_after.failed w.failed w_after.failed (ended result)

-- ---- parts

-- the result of a loop that has answered all lines, by whether all answers pass
abbrev pub judged : Bool → Result (Unit {0}) SessionError → Result Bool SessionError
judged all (Ok u) = Ok all
judged all (Err e) = Err e

-- the property holds for the line of which this is kept, and for the most bytes of it that are read
abbrev pub OfLine : Line → (ℕ → List ℕ → Type 0) → Type 0
OfLine line Q = (most : ℕ) (bytes : List ℕ) → KeepsLine most line bytes → Q most bytes

-- the answer to a line was written except for a rest
pub record AnsweredPart (texts : LineTexts) (line : List ℕ) (old new : Option (List ℕ)) : Type 0 where
  pub text : List ℕ
  pub answers : texts line text
  pub many : ℕ
  pub is_cut : many < length text
  pub written : AddsBytes old new (take many text)

-- the lines that ended among the bytes that were heard were answered
pub record AnswersSoFar (each : JoinedTexts) (before heard : List ℕ) (written : Option (List ℕ)) : Type 0 where
  pub text : List ℕ
  pub lines : each (cut heard).0 text
  pub written_is : written ≡ Some (before ++ text)

-- the bytes that were heard are all, and their lines were answered
pub record AnswersToEnd (each : JoinedTexts) (before heard : List ℕ) (written : Option (List ℕ)) : Type 0 where
  pub text : List ℕ
  pub lines : each (input_lines heard) text
  pub written_is : written ≡ Some (before ++ text)

-- the answers to all lines of the bytes that were heard but the last were written whole, and the last except for a rest
pub record AnswersCut (texts : LineTexts) (each : JoinedTexts) (before heard : List ℕ) (written : Option (List ℕ)) : Type 0 where
  pub lines : List (List ℕ)
  pub last : List ℕ
  pub lines_are : lines ++ last ∷ [] ≡ input_lines heard
  pub text : List ℕ
  pub answered : each lines text
  pub part : List ℕ
  pub rest : List ℕ
  pub answers : texts last (part ++ rest)
  pub is_cut : 0 < length rest
  pub part_written : written ≡ Some (before ++ (text ++ part))

-- how answering ends: never at a line
abbrev pub AnswersEnd : Bool → JoinedTexts → List ℕ → List ℕ → Option (List ℕ) → Type 0
AnswersEnd false each before heard written = ⊥
AnswersEnd true each before heard written = AnswersToEnd each before heard written

-- how a write fails, at a line or at the input's end
abbrev pub AnswersBreak : Bool → LineTexts → JoinedTexts → List ℕ → List ℕ → Option (List ℕ) → Type 0
AnswersBreak false texts each before heard written = AnswersCut texts each before heard written × ((cut heard).1 ≡ [])
AnswersBreak true texts each before heard written = AnswersCut texts each before heard written
