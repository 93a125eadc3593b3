-- How the answers continue.
use Rattle.line_answers.proofs.Prelude.{◌≡◌, ℕ, ◌<◌, ◌≤◌, ◌&&◌, Bool, true, false, List, [], ◌∷◌, ◌++◌, length, length-drop, take, drop, Option, Some, refl, sym, ap, subst, ◌∙◌, inl, inr, arith, append_assoc, append-nil, true≢false, Result, Ok, Err, ◌⊎◌, take-append-drop, AddsBytes, cut, input_lines, readable, with_rest, SessionError, ReadFailed, WriteFailed, Pieces, cut-none, cut-line, cut-part, input_lines-ended, readable-all, HasNoFeed, HeardByResult, AnswersInputLine, FailsByResult, LineTexts, answered, ended, judged, passes, no_memory, passed_over, too_long, decided, is_blank, IsKeptOfLine, KeepsLine, AnsweredPart, AnswersEach, AnswersByResult, AnswersSoFar, AnswersToEnd, AnswersCut, AnswersEnd, AnswersBreak, AnsweredPartOfLines, AnsweredAllLines, AnsweredSomeLines, JoinedTexts}
use Rattle.streams.specs.declared.session_error.SessionError.TheVariants.{Memory as SessionMemory}
use Rattle.line_answers.specs.declared.line.Line.{Line}
use Rattle.line_answers.specs.AnsweredLines as told

-- nothing is answered to an empty line
no_answer : (most : ℕ) (long : List ℕ) (decides : LineTexts) (line text : List ℕ) → line ≡ [] → AnswersInputLine most long decides line text → text ≡ []
no_answer most long decides line text none (passed_over short blank) = refl
no_answer most long decides line text none (too_long above) = absurd (let zero = ap length none in omega (arith, above, zero))
no_answer most long decides line text none (decided short full decides_it) = absurd (let blank : is_blank line ≡ true = ap is_blank none in true≢false (sym blank ∙ full))
no_answer most long decides line text none (no_memory some) = absurd (let zero = ap length none in omega (arith, some, zero))

-- no text but the empty one is answered to an empty line
abbrev pub PassesNone : LineTexts → Type 0
PassesNone texts = (text : List ℕ) → texts [] text → text ≡ []

pub passes_none : (most : ℕ) (long : List ℕ) (decides : LineTexts) → PassesNone (AnswersInputLine most long decides)
passes_none most long decides text answers = no_answer most long decides [] text refl answers

-- the answers to ended lines and to the rest after them
and_true : (b : Bool) → (b && true) ≡ b
and_true true = refl
and_true false = refl

-- whether all pass does not depend on a line without an answer
pub and_none : (answer : List ℕ) (all : Bool) → answer ≡ [] → (all && passes answer) ≡ all
and_none answer all none = ap (λ (a : List ℕ). all && passes a) none ∙ and_true all

with_last : (texts : LineTexts) (none : PassesNone texts) (lines : List (List ℕ)) (rest text answer : List ℕ) (all : Bool) → AnswersEach texts lines text all → texts rest answer
    → AnswersEach texts (with_rest lines rest) (text ++ answer) (all && passes answer)
with_last texts none lines [] text answer all each last = rw (and_none answer all (none answer last), none answer last, append-nil text) each
with_last texts none lines (b ∷ bs) text answer all each last = told.more each last

-- a rest that has an answer is a line
is_line : (texts : LineTexts) (none : PassesNone texts) (lines : List (List ℕ)) (rest answer : List ℕ) (n : ℕ) → texts rest answer → n < length answer → lines ++ rest ∷ [] ≡ with_rest lines rest
is_line texts none lines [] answer n last some = absurd (let zero = ap length (none answer last) in omega (arith, some, zero))
is_line texts none lines (b ∷ bs) answer n last some = refl

module _ (each : JoinedTexts) where
  pub starts : each [] [] → (before : List ℕ) (written : Option (List ℕ)) → written ≡ Some before → AnswersSoFar each before [] written
  starts none before written w = record { text = []; lines = rw cut-none none; written_is = w ∙ ap Some (sym (append-nil before)) }

  module _ (before heard : List ℕ) (written : Option (List ℕ)) (g : AnswersSoFar each before heard written) where
    written-more : (text : List ℕ) (new : Option (List ℕ)) → AddsBytes written new text → new ≡ Some (before ++ (g.text ++ text))
    written-more text new adds = adds (before ++ g.text) g.written_is ∙ ap Some (append_assoc before g.text text)

    -- a part of a line
    pub going_part : (part : List ℕ) → HasNoFeed part → AnswersSoFar each before (heard ++ part) written
    going_part part plain = record { text = g.text; lines = rw (cut-part heard part plain) g.lines; written_is = g.written_is }

    -- the end, when the rest after the last line feed is answered
    pub ends : (next : JoinedTexts) (text : List ℕ) (new : Option (List ℕ)) → AddsBytes written new text → next (input_lines heard) (g.text ++ text)
        → AnswersToEnd next before heard new
    ends next text new adds lines = record { text = g.text ++ text; lines = lines; written_is = written-more text new adds }

    -- the rest of a line, and its line feed
    module _ (rest : List ℕ) (plain : HasNoFeed rest) (new : Option (List ℕ)) where
      pub ends_line : cut (heard ++ (rest ++ 10 ∷ [])) ≡ ((cut heard).0 ++ ((cut heard).1 ++ rest) ∷ [], [])
      ends_line = cut-line heard rest plain

      pub goes_on : (next : JoinedTexts) (text : List ℕ) → AddsBytes written new text → next ((cut heard).0 ++ ((cut heard).1 ++ rest) ∷ []) (g.text ++ text)
          → AnswersSoFar next before (heard ++ (rest ++ 10 ∷ [])) new
      goes_on next text adds lines = record { text = g.text ++ text; lines = rw ends_line lines; written_is = written-more text new adds }

    -- an answer that was written in part
    module _ (texts : LineTexts) where
      part_told : (whole all : List ℕ) (new : Option (List ℕ)) → AnsweredPart texts whole written new → (cut heard).0 ++ whole ∷ [] ≡ input_lines all
          → AnswersCut texts each before all new
      part_told whole all new a are = record {
        lines = (cut heard).0;
        last = whole;
        lines_are = are;
        text = g.text;
        answered = g.lines;
        part = take a.many a.text;
        rest = drop a.many a.text;
        answers = rw take-append-drop a.answers;
        is_cut = omega (arith, a.is_cut, length-drop a.many a.text);
        part_written = written-more (take a.many a.text) new a.written;
      }

      pub told_part : (rest : List ℕ) → HasNoFeed rest → (new : Option (List ℕ)) → AnsweredPart texts ((cut heard).1 ++ rest) written new
          → AnswersBreak false texts each before (heard ++ (rest ++ 10 ∷ [])) new
      told_part rest plain new a =
          let line = ends_line rest plain new in
          let all = input_lines-ended (heard ++ (rest ++ 10 ∷ [])) (ap (λ (p : Pieces). take 65 p.1) line) ∙ ap (λ (p : Pieces). p.0) line in
          (part_told ((cut heard).1 ++ rest) (heard ++ (rest ++ 10 ∷ [])) new a (sym all), ap (λ (p : Pieces). p.1) line)

      -- the line is whole: nothing of it was kept
      pub told_part_whole : (rest : List ℕ) → HasNoFeed rest → (new : Option (List ℕ)) → (cut heard).1 ≡ [] → AnsweredPart texts rest written new
          → AnswersBreak false texts each before (heard ++ (rest ++ 10 ∷ [])) new
      told_part_whole rest plain new whole a = told_part rest plain new (subst (λ (l : List ℕ). AnsweredPart texts (l ++ rest) written new) (sym whole) a)

      pub end_part : PassesNone texts → (new : Option (List ℕ)) → AnsweredPart texts (cut heard).1 written new → AnswersCut texts each before heard new
      end_part none new a = part_told (cut heard).1 heard new a (is_line texts none (cut heard).0 (cut heard).1 a.text a.many a.answers a.is_cut)

-- likewise for the joined answers alone
module _ (texts : LineTexts) where
  pub going_start : (before : List ℕ) (written : Option (List ℕ)) → written ≡ Some before → AnswersSoFar (answered texts true) before [] written
  going_start before written w = starts (answered texts true) told.none before written w

  module _ (all : Bool) (before heard : List ℕ) (written : Option (List ℕ)) (g : AnswersSoFar (answered texts all) before heard written) where
    module _ (rest : List ℕ) (plain : HasNoFeed rest) (new : Option (List ℕ)) (answer : List ℕ) (pass : Bool) (is : pass ≡ (all && passes answer))
        (written_is : AddsBytes written new answer) where
      pub going_line : texts ((cut heard).1 ++ rest) answer → AnswersSoFar (answered texts pass) before (heard ++ (rest ++ 10 ∷ [])) new
      going_line a = rw is (goes_on (answered texts all) before heard written g rest plain new (answered texts (all && passes answer)) answer written_is (told.more g.lines a))

      pub going_whole : (cut heard).1 ≡ [] → texts rest answer → AnswersSoFar (answered texts pass) before (heard ++ (rest ++ 10 ∷ [])) new
      going_whole whole a = going_line (subst (λ (l : List ℕ). texts (l ++ rest) answer) (sym whole) a)

    pub end_whole : PassesNone texts → (new : Option (List ℕ)) (answer : List ℕ) (pass : Bool) → pass ≡ (all && passes answer) → AddsBytes written new answer
        → texts (cut heard).1 answer → AnswersToEnd (answered texts pass) before heard new
    end_whole none new answer pass is written_is a =
        rw is
        (ends (answered texts all) before heard written g (answered texts (all && passes answer)) answer new written_is
        (with_last texts none (cut heard).0 (cut heard).1 g.text answer all g.lines a))

-- what is kept of a line before its first byte is heard
pub kept_start : (most : ℕ) (line : Line) → KeepsLine most line [] → KeepsLine line.most line (cut []).1
kept_start most line keeps = rw cut-none
    (record { most_is = refl; kept = subst (λ (m : ℕ). IsKeptOfLine line.lacks m line.bytes.items []) (sym keeps.most_is) keeps.kept })

-- what is kept once the rest of a line, or its end, is heard
pub kept_part : (most : ℕ) (line : Line) (heard part : List ℕ) → HasNoFeed part → KeepsLine most line ((cut heard).1 ++ part) → KeepsLine most line (cut (heard ++ part)).1
kept_part most line heard part plain keeps = rw (cut-part heard part plain) keeps

pub kept_none : (most : ℕ) (line : Line) (heard rest : List ℕ) → HasNoFeed rest → KeepsLine most line [] → KeepsLine most line (cut (heard ++ (rest ++ 10 ∷ []))).1
kept_none most line heard rest plain keeps = rw (cut-line heard rest plain) keeps

pub kept_still : (most : ℕ) (line : Line) (heard rest : List ℕ) → HasNoFeed rest → (cut heard).1 ≡ [] → KeepsLine most line (cut heard).1
    → KeepsLine most line (cut (heard ++ (rest ++ 10 ∷ []))).1
kept_still most line heard rest plain whole keeps = kept_none most line heard rest plain (subst (KeepsLine most line) whole keeps)

module _ (texts : LineTexts) (each : JoinedTexts) (input before : List ℕ) (left written : Option (List ℕ)) where
  -- what was read and written once the input was heard to its end
  pub all_told : left ≡ Some (drop (length (readable input)) input) → AnswersToEnd each before (readable input) written
      → AnsweredAllLines each input before left written
  all_told gone a = record { all_left = gone; text = a.text; all_lines = a.lines; all_written = a.written_is }

  -- a read failed
  pub some_told : (read : ℕ) → read ≤ length (readable input) → left ≡ Some (drop read input) → AnswersSoFar each before (take read input) written
      → AnsweredSomeLines each input before left written
  some_told read inside gone a =
      record { read = read; within = inside; some_left = gone; text = a.text; some_lines = a.lines; some_written = a.written_is }

  -- a write that failed
  cut_told : (read : ℕ) → read ≤ length (readable input) → left ≡ Some (drop read input) → AnswersCut texts each before (take read input) written
      → ((cut (take read input)).1 ≡ []) ⊎ (read ≡ length (readable input)) → AnsweredPartOfLines texts each input before left written
  cut_told read inside gone a ends = record {
    read = read;
    within = inside;
    line_read = ends;
    part_left = gone;
    lines = a.lines;
    last = a.last;
    lines_are = a.lines_are;
    text = a.text;
    answered = a.answered;
    part = a.part;
    rest = a.rest;
    answers = a.answers;
    is_cut = a.is_cut;
    part_written = a.part_written;
  }

  pub line_cut_told : (read : ℕ) → read ≤ length (readable input) → left ≡ Some (drop read input) → AnswersBreak false texts each before (take read input) written
      → AnsweredPartOfLines texts each input before left written
  line_cut_told read inside gone a = cut_told read inside gone a.0 (inl a.1)

  pub end_cut_told : left ≡ Some (drop (length (readable input)) input) → AnswersBreak true texts each before (readable input) written
      → AnsweredPartOfLines texts each input before left written
  end_cut_told gone a =
      cut_told (length (readable input)) (omega arith) gone
      (subst (λ (bytes : List ℕ). AnswersCut texts each before bytes written) (sym (readable-all input)) a) (inr refl)

module _ (texts : LineTexts) (input before : List ℕ) (left written : Option (List ℕ)) where
  -- what a listener's state implies about the bytes that were heard
  pub heard_told : (all : Bool) (same : Type 0) (keeps : List ℕ → Type 0) (result : Result (Unit {0}) SessionError)
      → HeardByResult (λ heard new. same × AnswersSoFar (answered texts all) before heard new × keeps heard)
      (λ last heard new. AnswersEnd last (answered texts all) before heard new) (λ last heard new. AnswersBreak last texts (answered texts all) before heard new) input left written result
      → AnswersByResult texts (answered texts) input before left written (judged all result)
  heard_told all same keeps (Ok u) (inl r) = absurd r.of_bytes
  heard_told all same keeps (Ok u) (inr r) = all_told texts (answered texts all) input before left written r.left_is r.of_bytes
  heard_told all same keeps (Err ReadFailed) r = (all, some_told texts (answered texts all) input before left written r.read r.within r.left_is r.of_bytes.1)
  heard_told all same keeps (Err WriteFailed) (inl r) = (all, line_cut_told texts (answered texts all) input before left written r.read r.within r.left_is r.of_bytes)
  heard_told all same keeps (Err WriteFailed) (inr r) = (all, end_cut_told texts (answered texts all) input before left written r.left_is r.of_bytes)
  heard_told all same keeps (Err SessionMemory) none = absurd none

-- a result with a verdict fails as the one without
pub fails_judged : (all : Bool) (result : Result (Unit {0}) SessionError) (reads reads_after writes writes_after : ℕ) → FailsByResult reads reads_after writes writes_after result
    → FailsByResult reads reads_after writes writes_after (ended (judged all result))
fails_judged all (Ok u) reads reads_after writes writes_after fails = fails
fails_judged all (Err e) reads reads_after writes writes_after fails = fails
