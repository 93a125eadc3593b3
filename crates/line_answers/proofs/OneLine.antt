-- The answer to one line.
use Rattle.std.proofs.Math.Seq.{take-add}
use Rattle.std.proofs.lemmas.List.{drop_at, take_at}
use Rattle.streams.proofs.Cut.{take-join}
use Rattle.line_answers.proofs.Prelude.{◌≡◌, ◌++◌, ◌+◌, ◌-◌, ◌∙◌, refl, ℕ, suc, arith, length-take, ◌<◌, ◌≤◌, Bool, true, false, List, [], ◌∷◌, length, take, take_all, Option, Some, Result, Ok, Err, append-nil, sym, ap, subst, AddsBytes, AnswersInputLine, IsKeptOfLine, KeepsLine, LineTexts, AnsweredPart, is_blank, line_of, no_memory, passed_over, too_long, decided}
use Rattle.std.specs.Prelude.{IfOk, OnErr, Vec}
use Rattle.std.specs.declared.alloc.AllocError.{AllocError}
use Rattle.std.specs.declared.alloc.Global.{Global}
use Rattle.line_answers.specs.Telling.{answer_bytes}
use Rattle.line_answers.specs.declared.line.Line.{Line}

-- what is kept of a line that is not too long is the line
kept_whole : (most : ℕ) (kept line : List ℕ) → kept ≡ take (suc most) line → length kept ≤ most → kept ≡ line
kept_whole most kept line keeps short =
    let many = ap length keeps in
    let few : length line ≤ suc most = omega (arith, many, short, length-take (suc most) line) in
    keeps ∙ take_all (suc most) line few

-- a line of which nothing could be kept is not empty
pub lacking : (most : ℕ) (l : Line) (line : List ℕ) → l.lacks ≡ true → KeepsLine most l line → 0 < length line
lacking most l line lacks keeps = subst (λ (b : Bool). IsKeptOfLine b most l.bytes.items line) lacks keeps.kept

pub err_so : {T E : Type 0} (r : Result T E) (P : Type 0) → P → OnErr r P
err_so (Ok a) P p = tt
err_so (Err e) P p = p

empty : (line : List ℕ) → length line ≡ 0 → line ≡ []
empty [] none = refl
empty (b ∷ bs) none = absurd (omega (arith, none))

module _ (most : ℕ) (long : List ℕ) (decides : LineTexts) where
  pub is_long : (line text answer : List ℕ) → most < length line → answer ≡ line_of text → text ≡ long → AnswersInputLine most long decides line answer
  is_long line text answer above is same = subst (AnswersInputLine most long decides line) (sym (is ∙ ap line_of same)) (too_long above)

  pub is_passed : (line answer : List ℕ) → length line ≤ most → is_blank line ≡ true → answer ≡ [] → AnswersInputLine most long decides line answer
  is_passed line answer short blank is = subst (AnswersInputLine most long decides line) (sym is) (passed_over short blank)

  pub is_decided : (line text answer : List ℕ) → length line ≤ most → is_blank line ≡ false → answer ≡ line_of text → decides line text
      → AnswersInputLine most long decides line answer
  is_decided line text answer short full is decides_it = subst (AnswersInputLine most long decides line) (sym is) (decided short full decides_it)

  -- what is answered to what is kept of a line is answered to the line
  of_kept : (kept line text : List ℕ) → kept ≡ take (suc most) line → AnswersInputLine most long decides kept text → AnswersInputLine most long decides line text
  of_kept kept line text keeps (too_long above) =
      let many = ap length keeps in
      too_long (omega (arith, above, many, length-take (suc most) line))
  of_kept kept line text keeps (passed_over short blank) =
      subst (λ (b : List ℕ). AnswersInputLine most long decides b []) (kept_whole most kept line keeps short) (passed_over short blank)
  of_kept kept line text keeps (decided {text = t} short full by) =
      subst (λ (b : List ℕ). AnswersInputLine most long decides b (line_of t)) (kept_whole most kept line keeps short) (decided short full by)
  of_kept kept line text keeps (no_memory some) =
      let many = ap length keeps in
      no_memory (omega (arith, some, many, length-take (suc most) line))

  -- the answer to an empty line, to a line, and to one that was kept
  pub is_nothing : (line answer : List ℕ) → length line ≡ 0 → answer ≡ [] → AnswersInputLine most long decides line answer
  is_nothing line answer none is =
      subst (λ (l : List ℕ). AnswersInputLine most long decides l answer) (sym (empty line none)) (is_passed [] answer (omega arith) refl is)

  pub answer_or_none : (r : Result (Vec ℕ Global) AllocError) (line : List ℕ) → 0 < length line
      → IfOk r (λ text. 0 < length line → AnswersInputLine most long decides line text.items) → AnswersInputLine most long decides line (answer_bytes r)
  answer_or_none (Ok text) line some answers = answers some
  answer_or_none (Err e) line some answers = no_memory some

  pub kept_answer : (l : Line) (line text : List ℕ) → l.lacks ≡ false → KeepsLine most l line → AnswersInputLine most long decides l.bytes.items text
      → AnswersInputLine most long decides line text
  kept_answer l line text held keeps =
      of_kept l.bytes.items line text (subst (λ (lacks : Bool). IsKeptOfLine lacks most l.bytes.items line) held keeps.kept)

pub written_part : (texts : LineTexts) (line text : List ℕ) (old new : Option (List ℕ)) → texts line text
    → (n : ℕ) × (n < length text) × AddsBytes old new (take n text) → AnsweredPart texts line old new
written_part texts line text old new answers part =
    record { text = text; answers = answers; many = part.0; is_cut = part.1; written = part.2 }

-- the first bytes of two joined texts
front_more : (n : ℕ) (xs ys : List ℕ) → length xs ≤ n → take n (xs ++ ys) ≡ xs ++ take (n - length xs) ys
front_more n xs ys short =
    let whole : length xs + (n - length xs) ≡ n = omega (arith, short) in
    sym (ap (λ (m : ℕ). take m (xs ++ ys)) whole)
    ∙ take-add (length xs) (n - length xs) (xs ++ ys)
    ∙ (λ i. take_at xs ys (length xs) refl i ++ take (n - length xs) (drop_at xs ys (length xs) refl i))

-- what is kept of a line once its next part is added
pub keeps_more : (most : ℕ) (lacks : Bool) (kept new line part added : List ℕ) (len : ℕ) → lacks ≡ false → IsKeptOfLine lacks most kept line → len ≡ length kept → length kept ≤ most
    → added ≡ take (suc (most - len)) part → new ≡ kept ++ added → IsKeptOfLine lacks most new (line ++ part)
keeps_more most true kept new line part added len off keeps size short is all = absurd (cc)
keeps_more most false kept new line part added len off keeps size short is all =
    let room : suc (most - length kept) ≡ suc most - length kept = omega (arith, short) in
    all
    ∙ ap (λ (more : List ℕ). kept ++ more) (is ∙ ap (λ (n : ℕ). take (suc (most - n)) part) size ∙ ap (λ (n : ℕ). take n part) room)
    ∙ sym (front_more (suc most) kept part (omega (arith, short)))
    ∙ ap (λ (front : List ℕ). take (suc most) (front ++ part)) keeps
    ∙ take-join (suc most) line part
