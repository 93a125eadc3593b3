-- What holds of each text that may be answered to a line holds of what is written for an input.
use Rattle.line_answers.proofs.Prelude.{ℕ, Bool, List, Option, Result, Ok, Err, SessionError, ReadFailed, WriteFailed, AnswersInputLine, LineTexts, decided, no_memory, passed_over, too_long, AnswersEach, AnswersByResult, AnswersInput, JoinedTexts, Stream, TellsEach, TellsInput}
use Rattle.streams.specs.declared.session_error.SessionError.TheVariants.{Memory as SessionMemory}
use Rattle.line_answers.specs.AnsweredLines as told
use Rattle.line_answers.specs.Telling as telling

-- each text by the first is one by the second
abbrev pub Gives : LineTexts → LineTexts → Type 0
Gives texts others = (line text : List ℕ) → texts line text → others line text

pub line_gives : (most : ℕ) (long : List ℕ) (decides others : LineTexts) → Gives decides others → Gives (AnswersInputLine most long decides) (AnswersInputLine most long others)
line_gives most long decides others gives line text (too_long above) = too_long above
line_gives most long decides others gives line text (passed_over short blank) = passed_over short blank
line_gives most long decides others gives line text (decided {text = t} short full by) = decided short full (gives line t by)
line_gives most long decides others gives line text (no_memory some) = no_memory some

module _ (texts others : LineTexts) (gives : Gives texts others) where
  each_gives : (pass : Bool) (lines : List (List ℕ)) (text : List ℕ) → AnswersEach texts lines text pass → AnswersEach others lines text pass
  each_gives _ _ _ told.none = told.none
  each_gives _ _ _ (told.more {lines = before} {text = first} {line = line} {answer = answer} {all = all} each last) =
      told.more (each_gives all before first each) (gives line answer last)

  tells_each_gives : (said : List ℕ) (pass : Bool) (lines : List (List ℕ)) (text : List ℕ) → TellsEach texts lines text pass said → TellsEach others lines text pass said
  tells_each_gives _ _ _ _ telling.none = telling.none
  tells_each_gives _ _ _ _ (telling.more {lines = before} {text = first} {told = said_first} {line = line} {answer = answer} {all = all} each last) =
      telling.more (tells_each_gives said_first all before first each) (gives line answer last)

  module _ (each next : Bool → JoinedTexts) (all : (pass : Bool) (lines : List (List ℕ)) (text : List ℕ) → each pass lines text → next pass lines text) where
    result_gives : (input before : List ℕ) (left written : Option (List ℕ)) (result : Result Bool SessionError)
        → AnswersByResult texts each input before left written result → AnswersByResult others next input before left written result
    result_gives input before left written (Ok pass) a =
        record { all_left = a.all_left; text = a.text; all_lines = all pass _ a.text a.all_lines; all_written = a.all_written }
    result_gives input before left written (Err ReadFailed) (pass, a) = (
      pass,
      record {
        read = a.read;
        within = a.within;
        some_left = a.some_left;
        text = a.text;
        some_lines = all pass _ a.text a.some_lines;
        some_written = a.some_written;
      },
    )
    result_gives input before left written (Err WriteFailed) (pass, a) = (
      pass,
      record {
        read = a.read;
        within = a.within;
        line_read = a.line_read;
        part_left = a.part_left;
        lines = a.lines;
        last = a.last;
        lines_are = a.lines_are;
        text = a.text;
        answered = all pass a.lines a.text a.answered;
        part = a.part;
        rest = a.rest;
        answers = gives a.last _ a.answers;
        is_cut = a.is_cut;
        part_written = a.part_written;
      },
    )
    result_gives input before left written (Err SessionMemory) none = absurd none

  pub input_gives : (r r_after w w_after : Stream) (result : Result Bool SessionError)
      → AnswersInput texts r r_after w w_after result → AnswersInput others r r_after w w_after result
  input_gives r r_after w w_after result a = record {
    told = λ input before e f.
        result_gives (told.answered texts) (told.answered others) each_gives input before r_after.bytes w_after.bytes result (a.told input before e f);
    fails = a.fails;
  }

  pub tells_gives : (r r_after w w_after e e_after : Stream) (result : Result Bool SessionError)
      → TellsInput texts r r_after w w_after e e_after result → TellsInput others r r_after w w_after e e_after result
  tells_gives r r_after w w_after e e_after result a = record {
    told = λ input before known empty.
        let t = a.told input before known empty in (
          t.0,
          result_gives (telling.telling texts t.0) (telling.telling others t.0) (tells_each_gives t.0) input before r_after.bytes w_after.bytes result t.1,
          t.2,
        );
    fails = a.fails;
  }
