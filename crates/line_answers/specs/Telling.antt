-- Reports on refused lines, on a stream of their own.
use Rattle.std.specs.Prelude.{◌≡◌, ℕ, ◌≤◌, ◌⊎◌, ◌&&◌, Bool, true, false, nat_eq, List, [], ◌∷◌, ◌++◌, ◌||◌, codes, decimal, length, suc, Option, Some}
use Rattle.std.specs.Prelude.{Result, Ok, Err, Vec, if◌then◌else◌}
use Rattle.std.specs.declared.alloc.AllocError.{AllocError}
use Rattle.std.specs.declared.alloc.Global.{Global}
use Rattle.std.specs.List.{starts_with}
use Rattle.streams.specs.Failures.{FailsByResult}
use Rattle.streams.specs.Lines.{cut}
use Rattle.streams.specs.Streams.{Stream}
use Rattle.streams.specs.Writing.{WritesBytes, WritesPart}
use Rattle.streams.specs.declared.session_error.SessionError.{SessionError}
use Rattle.line_answers.specs.AnsweredLines.{AnswersBreak, AnswersByResult, AnswersEnd, AnswersSoFar, JoinedTexts, ended}
use Rattle.line_answers.specs.Lines.{LineTexts, no_memory_text, passes}

-- the answer refuses its line: an object whose first member is `refused`, or the policy that refuses
abbrev pub is_refusal : List ℕ → Bool
is_refusal answer = starts_with nat_eq answer (codes "{\"refused\":\"") || starts_with nat_eq answer (codes "{\"policy\":\"")

-- the report on a line, by its number, counted from 1, and its answer: a line with both if it is refused, else nothing
abbrev pub told_of : ℕ → List ℕ → List ℕ
told_of number answer =
    if is_refusal answer then codes "celbpf: line " ++ (decimal number ++ (codes ": " ++ answer)) else []

-- the joined answers to lines, whether all of them pass, and the reports on these lines
pub data TellsEach (texts : LineTexts) : List (List ℕ) → List ℕ → Bool → List ℕ → Type 0 where
  none : TellsEach texts [] [] true []
  more : {lines : List (List ℕ)} {text told : List ℕ} {line answer : List ℕ} {all : Bool} → TellsEach texts lines text all told
      → texts line answer
      → TellsEach texts (lines ++ line ∷ []) (text ++ answer) (all && passes answer) (told ++ told_of (suc (length lines)) answer)

-- the joined answers to lines with these reports, if all pass or if not all do
abbrev pub telling : LineTexts → List ℕ → Bool → JoinedTexts
telling texts told all lines text = TellsEach texts lines text all told

-- what answering does to a reader, a writer and the stream of the reports: that took the reports on the lines whose
-- answers were written whole, or a beginning of them if a write to it failed
pub record TellsInput (texts : LineTexts) (r r_after w w_after e e_after : Stream)
    (result : Result Bool SessionError) : Type 0 where
  pub told : (input before : List ℕ) → r.bytes ≡ Some input → w.bytes ≡ Some before
      → (text : List ℕ)
      × AnswersByResult texts (telling texts text) input before r_after.bytes w_after.bytes result
      × (WritesBytes e e_after text ⊎ WritesPart e e_after text)
  pub fails : FailsByResult r.failed r_after.failed w.failed w_after.failed (ended result)

-- ---- parts

-- the text of an answer, or of a failed allocation for it
abbrev pub answer_bytes : Result (Vec ℕ Global) AllocError → List ℕ
answer_bytes (Ok text) = text.items
answer_bytes (Err e) = no_memory_text

-- a stream took these bytes, or a beginning of them if a write has failed
abbrev pub TakesOf : Bool → Stream → Stream → List ℕ → Type 0
TakesOf false old new bytes = WritesBytes old new bytes
TakesOf true old new bytes = WritesPart old new bytes

-- the lines that ended among the bytes that were heard were answered, reported and counted
pub record TellsSoFar (texts : LineTexts) (all : Bool) (count : ℕ) (failed : Bool) (e e_now : Stream) (before heard : List ℕ)
    (written : Option (List ℕ)) : Type 0 where
  pub text : List ℕ
  pub so_far : AnswersSoFar (telling texts text all) before heard written
  pub count_is : count ≡ length (cut heard).0
  pub few : count ≤ length heard
  pub tells : TakesOf failed e e_now text

-- how reporting ends: never at a line
abbrev pub TellsEnd : Bool → LineTexts → Bool → Stream → Stream → List ℕ → List ℕ → Option (List ℕ) → Type 0
TellsEnd last texts all e e_now before heard written =
    (text : List ℕ) × AnswersEnd last (telling texts text all) before heard written
    × (WritesBytes e e_now text ⊎ WritesPart e e_now text)

-- how a write of an answer fails, at a line or at the input's end
abbrev pub TellsBreak : Bool → LineTexts → Bool → Stream → Stream → List ℕ → List ℕ → Option (List ℕ) → Type 0
TellsBreak last texts all e e_now before heard written =
    (text : List ℕ) × AnswersBreak last texts (telling texts text all) before heard written
    × (WritesBytes e e_now text ⊎ WritesPart e e_now text)
