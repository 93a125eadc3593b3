-- How the reports on refused lines continue.
use Rattle.line_answers.proofs.Prelude.{◌≡◌, ℕ, suc, ◌+◌, ◌<◌, ◌≤◌, ◌^◌, Bool, true, false, List, [], ◌∷◌, ◌++◌, length, length-append, length-take, take, Option, Some, refl, sym, ap, subst, ◌∙◌, inl, inr, arith, append_assoc, append-nil, Result, Ok, Err, ◌⊎◌, AddsBytes, Stream, WritesBytes, WritesPart, cut, input_lines, readable, with_rest, one_more, SessionError, ReadFailed, WriteFailed, cut-none, cut-line, cut-part, take-append-le, HasNoFeed, HeardByResult, AnswersInputLine, LineTexts, AnsweredPart, AnswersByResult, JoinedTexts, TakesOf, TellsBreak, TellsEach, TellsEnd, TellsSoFar, judged, passes, told_of, true≢false, ◌&&◌}
use Rattle.std.proofs.Common.{codes, decimal, if◌then◌else◌, suc-add, zero-add}
use Rattle.line_answers.specs.Telling.{is_refusal}
use Rattle.streams.specs.declared.session_error.SessionError.TheVariants.{Memory as SessionMemory}
use Rattle.line_answers.proofs.Going.{PassesNone, all_told, and_none, end_cut_told, end_part, ends, goes_on, going_part, line_cut_told, some_told, starts, told_part, told_part_whole}
use Rattle.line_answers.specs.Telling as telling

-- ---- bytes that a stream takes

-- one text, and another after it
pub adds_both : (old known new : Option (List ℕ)) (xs ys : List ℕ) → AddsBytes old known xs → AddsBytes known new ys → AddsBytes old new (xs ++ ys)
adds_both old known new xs ys first second before is = second (before ++ xs) (first before is) ∙ ap Some (append_assoc before xs ys)

-- a stream took a beginning of a text
abbrev pub AddsPart : Option (List ℕ) → Option (List ℕ) → List ℕ → Type 0
AddsPart old new text = (n : ℕ) × (n < length text) × AddsBytes old new (take n text)

pub part_front : (old new : Option (List ℕ)) (xs ys : List ℕ) → AddsPart old new xs → AddsPart old new (xs ++ ys)
part_front old new xs ys p = (
  p.0,
  omega (arith, p.1, length-append xs ys),
  subst (AddsBytes old new) (sym (take-append-le p.0 xs ys (omega (arith, p.1)))) p.2,
)

take-both : (n : ℕ) (xs ys : List ℕ) → take (length xs + n) (xs ++ ys) ≡ xs ++ take n ys
take-both n [] ys = rw (zero-add n) refl
take-both n (x ∷ xs) ys = rw (suc-add (length xs) n) (ap (λ (zs : List ℕ). x ∷ zs) (take-both n xs ys))

pub part_behind : (old known new : Option (List ℕ)) (xs ys : List ℕ) → AddsBytes old known xs → AddsPart known new ys → AddsPart old new (xs ++ ys)
part_behind old known new xs ys first p = (
  length xs + p.0,
  omega (arith, p.1, length-append xs ys),
  subst (AddsBytes old new) (sym (take-both p.0 xs ys)) (adds_both old known new xs (take p.0 ys) first p.2),
)

-- ---- what is reported

pub told_both : (start old new : Stream) (xs ys : List ℕ) → WritesBytes start old xs → AddsBytes old.bytes new.bytes ys → new.failed ≡ old.failed
    → WritesBytes start new (xs ++ ys)
told_both start old new xs ys first adds same =
    record { adds = adds_both start.bytes old.bytes new.bytes xs ys first.adds adds; failed = same ∙ first.failed }

pub told_broken : (start old new : Stream) (xs ys : List ℕ) → WritesBytes start old xs → AddsPart old.bytes new.bytes ys → new.failed ≡ one_more old.failed
    → WritesPart start new (xs ++ ys)
told_broken start old new xs ys first part one =
    let p = part_behind start.bytes old.bytes new.bytes xs ys first.adds part in
    record { many = p.0; is_cut = p.1; adds = p.2; failed = one ∙ ap one_more first.failed }

pub told_no_more : (start now : Stream) (xs ys : List ℕ) → WritesPart start now xs → WritesPart start now (xs ++ ys)
told_no_more start now xs ys w =
    let p = part_front start.bytes now.bytes xs ys (w.many, w.is_cut, w.adds) in
    record { many = p.0; is_cut = p.1; adds = p.2; failed = w.failed }

pub told_nothing : (failed : Bool) (start now : Stream) (xs ys : List ℕ) → ys ≡ [] → TakesOf failed start now xs → TakesOf failed start now (xs ++ ys)
told_nothing failed start now xs ys none takes = subst (TakesOf failed start now) (sym (ap (λ (zs : List ℕ). xs ++ zs) none ∙ append-nil xs)) takes

-- the report on a refused line
abbrev report : ℕ → List ℕ → List ℕ
report number answer = codes "celbpf: line " ++ (decimal number ++ (codes ": " ++ answer))

told_is : (number count : ℕ) (answer : List ℕ) → is_refusal answer ≡ true → number ≡ suc count → report number answer ≡ told_of (suc count) answer
told_is number count answer refuses is =
    ap (λ (n : ℕ). report n answer) is
    ∙ ap (λ (b : Bool). if b then report (suc count) answer else []) (sym refuses)

pub told_one : (failed : Bool) (start old new : Stream) (text answer : List ℕ) (number count : ℕ) → failed ≡ false → is_refusal answer ≡ true → number ≡ suc count
    → AddsBytes old.bytes new.bytes (report number answer) → new.failed ≡ old.failed → TakesOf failed start old text
    → TakesOf failed start new (text ++ told_of (suc count) answer)
told_one true start old new text answer number count quiet refuses is adds same takes = absurd (true≢false quiet)
told_one false start old new text answer number count quiet refuses is adds same takes =
    subst (λ (more : List ℕ). WritesBytes start new (text ++ more)) (told_is number count answer refuses is)
    (told_both start old new text (report number answer) takes adds same)

pub told_cut : (failed : Bool) (start old new : Stream) (text answer : List ℕ) (number count : ℕ) → failed ≡ false → is_refusal answer ≡ true → number ≡ suc count
    → AddsPart old.bytes new.bytes (report number answer) → new.failed ≡ one_more old.failed → TakesOf failed start old text
    → WritesPart start new (text ++ told_of (suc count) answer)
told_cut true start old new text answer number count quiet refuses is part one takes = absurd (true≢false quiet)
told_cut false start old new text answer number count quiet refuses is part one takes =
    subst (λ (more : List ℕ). WritesPart start new (text ++ more)) (told_is number count answer refuses is)
    (told_broken start old new text (report number answer) takes part one)

-- all or a beginning
either_of : (failed : Bool) (start now : Stream) (text : List ℕ) → TakesOf failed start now text → WritesBytes start now text ⊎ WritesPart start now text
either_of false start now text w = inl w
either_of true start now text w = inr w

-- ---- lines

-- the answers to ended lines and to the rest after them, and the reports on them
tells_last : (texts : LineTexts) (none : PassesNone texts) (lines : List (List ℕ)) (rest text said answer : List ℕ) (all : Bool) → TellsEach texts lines text all said → texts rest answer
    → TellsEach texts (with_rest lines rest) (text ++ answer) (all && passes answer) (said ++ told_of (suc (length lines)) answer)
tells_last texts none lines [] text said answer all each last = rw (and_none answer all (none answer last), none answer last, append-nil text, append-nil said) each
tells_last texts none lines (b ∷ bs) text said answer all each last = telling.more each last

-- the relation for the reports
abbrev pub telling_of : LineTexts → List ℕ → Bool → JoinedTexts
telling_of texts said all lines answers = TellsEach texts lines answers all said

pub tells_start : (texts : LineTexts) (e : Stream) (before : List ℕ) (written : Option (List ℕ)) → written ≡ Some before → TellsSoFar texts true 0 false e e before [] written
tells_start texts e before written w = record {
  text = [];
  so_far = starts (telling_of texts [] true) telling.none before written w;
  count_is = rw cut-none refl;
  few = omega arith;
  tells = record { adds = λ bytes is. is ∙ ap Some (sym (append-nil bytes)); failed = refl };
}

module _ (texts : LineTexts) (all : Bool) (count : ℕ) (failed : Bool) (e e_now : Stream) (before heard : List ℕ) (written : Option (List ℕ))
    (t : TellsSoFar texts all count failed e e_now before heard written) where
  pub tells_part : (part : List ℕ) → HasNoFeed part → TellsSoFar texts all count failed e e_now before (heard ++ part) written
  tells_part part plain = record {
    text = t.text;
    so_far = going_part (telling_of texts t.text all) before heard written t.so_far part plain;
    count_is = rw (cut-part heard part plain) t.count_is;
    few = omega (arith, t.few, length-append heard part);
    tells = t.tells;
  }

  module _ (rest : List ℕ) (plain : HasNoFeed rest) (new : Option (List ℕ)) where
    -- a line that is answered and reported
    pub tells_line : (answer : List ℕ) (pass : Bool) (next : ℕ) (broken : Bool) (e_new : Stream) → texts ((cut heard).1 ++ rest) answer → AddsBytes written new answer
        → pass ≡ (all && passes answer) → next ≡ suc count → TakesOf broken e e_new (t.text ++ told_of (suc count) answer)
        → TellsSoFar texts pass next broken e e_new before (heard ++ (rest ++ 10 ∷ [])) new
    tells_line answer pass next broken e_new answers adds is one takes =
        let line : TellsEach texts ((cut heard).0 ++ ((cut heard).1 ++ rest) ∷ []) (t.so_far.text ++ answer) (all && passes answer) (t.text ++ told_of (suc count) answer) =
        subst (λ (n : ℕ). TellsEach texts ((cut heard).0 ++ ((cut heard).1 ++ rest) ∷ []) (t.so_far.text ++ answer) (all && passes answer) (t.text ++ told_of (suc n) answer))
        (sym t.count_is) (telling.more t.so_far.lines answers) in
        rw is (record {
          text = t.text ++ told_of (suc count) answer;
          so_far = goes_on (telling_of texts t.text all) before heard written t.so_far rest plain new (telling_of texts (t.text ++ told_of (suc count) answer) (all && passes answer)) answer adds line;
          count_is = rw (cut-line heard rest plain) (omega (arith, one, t.count_is, length-append (cut heard).0 (((cut heard).1 ++ rest) ∷ [])));
          few = omega (arith, one, t.few, length-append heard (rest ++ 10 ∷ []), length-append rest (10 ∷ []));
          tells = takes;
        })

    pub tells_break : AnsweredPart texts ((cut heard).1 ++ rest) written new → TellsBreak false texts all e e_now before (heard ++ (rest ++ 10 ∷ [])) new
    tells_break a =
        (t.text, told_part (telling_of texts t.text all) before heard written t.so_far texts rest plain new a, either_of failed e e_now t.text t.tells)

    -- a line of which nothing was kept
    module _ (whole : (cut heard).1 ≡ []) where
      pub tells_whole : (answer : List ℕ) (pass : Bool) (next : ℕ) (broken : Bool) (e_new : Stream) → texts rest answer → AddsBytes written new answer
          → pass ≡ (all && passes answer) → next ≡ suc count → TakesOf broken e e_new (t.text ++ told_of (suc count) answer)
          → TellsSoFar texts pass next broken e e_new before (heard ++ (rest ++ 10 ∷ [])) new
      tells_whole answer pass next broken e_new answers =
          tells_line answer pass next broken e_new (subst (λ (l : List ℕ). texts (l ++ rest) answer) (sym whole) answers)

      pub tells_break_whole : AnsweredPart texts rest written new → TellsBreak false texts all e e_now before (heard ++ (rest ++ 10 ∷ [])) new
      tells_break_whole a =
          (t.text, told_part_whole (telling_of texts t.text all) before heard written t.so_far texts rest plain new whole a, either_of failed e e_now t.text t.tells)

  -- the end of the input
  pub tells_end : PassesNone texts → (new : Option (List ℕ)) (answer : List ℕ) (pass broken : Bool) (e_new : Stream) → texts (cut heard).1 answer → AddsBytes written new answer
      → pass ≡ (all && passes answer) → TakesOf broken e e_new (t.text ++ told_of (suc count) answer) → TellsEnd true texts pass e e_new before heard new
  tells_end none new answer pass broken e_new answers adds is takes =
      let lines : TellsEach texts (input_lines heard) (t.so_far.text ++ answer) (all && passes answer) (t.text ++ told_of (suc count) answer) =
      subst (λ (n : ℕ). TellsEach texts (input_lines heard) (t.so_far.text ++ answer) (all && passes answer) (t.text ++ told_of (suc n) answer)) (sym t.count_is)
      (tells_last texts none (cut heard).0 (cut heard).1 t.so_far.text t.text answer all t.so_far.lines answers) in rw is (
        t.text ++ told_of (suc count) answer,
        ends (telling_of texts t.text all) before heard written t.so_far (telling_of texts (t.text ++ told_of (suc count) answer) (all && passes answer)) answer new adds lines,
        either_of broken e e_new (t.text ++ told_of (suc count) answer) takes,
      )

  pub tells_end_break : PassesNone texts → (new : Option (List ℕ)) → AnsweredPart texts (cut heard).1 written new → TellsBreak true texts all e e_now before heard new
  tells_end_break none new a =
      (t.text, end_part (telling_of texts t.text all) before heard written t.so_far texts none new a, either_of failed e e_now t.text t.tells)

  -- there is a number for the next line
  pub counted : length heard ≤ 2 ^ 63 → suc count < 2 ^ 64
  counted fits = omega (arith, t.few, fits)

pub fits_before : (heard more : List ℕ) → length (heard ++ more) ≤ 2 ^ 63 → length heard ≤ 2 ^ 63
fits_before heard more fits = omega (arith, fits, length-append heard more)

-- ---- the whole input

readable-fits : (input : List ℕ) → length (readable input) ≤ 2 ^ 63
unfolding readable
readable-fits input = omega (arith, length-take (2 ^ 63) input)

taken-fits : (read : ℕ) (input : List ℕ) → read ≤ length (readable input) → length (take read input) ≤ 2 ^ 63
taken-fits read input inside = omega (arith, inside, readable-fits input, length-take read input)

module _ (texts : LineTexts) (all : Bool) (count : ℕ) (failed : Bool) (e e_now : Stream) (input before : List ℕ) (left written : Option (List ℕ)) (same named : Type 0)
    (keeps : List ℕ → Type 0) where
  -- what was read, written and reported once the input was heard
  pub tells_told : (result : Result (Unit {0}) SessionError)
      → HeardByResult (λ heard new. same × named × keeps heard × (length heard ≤ 2 ^ 63 → TellsSoFar texts all count failed e e_now before heard new))
      (λ last heard new. named × (length heard ≤ 2 ^ 63 → TellsEnd last texts all e e_now before heard new))
      (λ last heard new. named × (length heard ≤ 2 ^ 63 → TellsBreak last texts all e e_now before heard new)) input left written result
      → named × (text : List ℕ) × AnswersByResult texts (telling_of texts text) input before left written (judged all result)
      × (WritesBytes e e_now text ⊎ WritesPart e e_now text)
  tells_told (Ok u) (inl r) = absurd ((r.of_bytes.1 (taken-fits r.read input r.within)).1)
  tells_told (Ok u) (inr r) =
      let t = r.of_bytes.1 (readable-fits input) in
      (r.of_bytes.0, t.0, all_told texts (telling_of texts t.0 all) input before left written r.left_is t.1, t.2)
  tells_told (Err ReadFailed) r =
      let t = r.of_bytes.3 (taken-fits r.read input r.within) in
      (r.of_bytes.1, t.text, (all, some_told texts (telling_of texts t.text all) input before left written r.read r.within r.left_is t.so_far), either_of failed e e_now t.text t.tells)
  tells_told (Err WriteFailed) (inl r) =
      let t = r.of_bytes.1 (taken-fits r.read input r.within) in
      (r.of_bytes.0, t.0, (all, line_cut_told texts (telling_of texts t.0 all) input before left written r.read r.within r.left_is t.1), t.2)
  tells_told (Err WriteFailed) (inr r) =
      let t = r.of_bytes.1 (readable-fits input) in
      (r.of_bytes.0, t.0, (all, end_cut_told texts (telling_of texts t.0 all) input before left written r.left_is t.1), t.2)
  tells_told (Err SessionMemory) none = absurd none

-- likewise for the rules and the stream from which the listener was made
pub tells_all : (most due : ℕ) (long : List ℕ) (decides : LineTexts) (all : Bool) (count : ℕ) (failed : Bool) (e first e_now : Stream) (input before : List ℕ)
    (left written : Option (List ℕ)) (same named : Type 0) (keeps : List ℕ → Type 0) → most ≡ due → e ≡ first → (result : Result (Unit {0}) SessionError)
    → HeardByResult (λ heard new. same × named × keeps heard × (length heard ≤ 2 ^ 63 → TellsSoFar (AnswersInputLine most long decides) all count failed e e_now before heard new))
    (λ last heard new. named × (length heard ≤ 2 ^ 63 → TellsEnd last (AnswersInputLine most long decides) all e e_now before heard new))
    (λ last heard new. named × (length heard ≤ 2 ^ 63 → TellsBreak last (AnswersInputLine most long decides) all e e_now before heard new)) input left written result
    → named × (text : List ℕ) × AnswersByResult (AnswersInputLine due long decides) (telling_of (AnswersInputLine due long decides) text) input before left written (judged all result)
    × (WritesBytes first e_now text ⊎ WritesPart first e_now text)
tells_all most due long decides all count failed e first e_now input before left written same named keeps is_due is_first result heard =
    let t = tells_told (AnswersInputLine most long decides) all count failed e e_now input before left written same named keeps result heard in (
      t.0,
      t.1,
      subst (λ (m : ℕ). AnswersByResult (AnswersInputLine m long decides) (telling_of (AnswersInputLine m long decides) t.1) input before left written (judged all result)) is_due t.2,
      subst (λ (s : Stream). WritesBytes s e_now t.1 ⊎ WritesPart s e_now t.1) is_first t.3,
    )

-- a stream that is no longer borrowed holds what it took
pub tells_moved : (start now last : Stream) (text : List ℕ) → last.bytes ≡ now.bytes → last.failed ≡ now.failed
    → WritesBytes start now text ⊎ WritesPart start now text → WritesBytes start last text ⊎ WritesPart start last text
tells_moved start now last text bytes failed =
    subst (λ (s : Stream). WritesBytes start s text ⊎ WritesPart start s text) (λ i. record { bytes = sym bytes i; failed = sym failed i })
