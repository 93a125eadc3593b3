-- Lookahead finds at most one thing, and finds it by computation.
use Rattle.wide_reader.proofs.Prelude.{◌≡◌, ◌≢◌, ℕ, List, [], ◌∷◌, Bool, true, false, Option, Some, None, inl, inr, ◌⊎◌, refl, sym, ◌∙◌, WideWord, name, quoted, mark, Mark, Wide, is_quoted_name, literal_of, operator_of, level_of, WideLook, at, in_literal, named, back_quoted, constant, operator, WideFoundBy, WideIs, this_mark, this_one, this_name, this_quoted, this_literal, this_operator, WideIsNot, WideIsNotNext, takes_comma, Level, Closing, BinaryOperator}
use denote.Enum.Bare.{sameb, same_true, same_false}
use Rattle.cel_tokens.specs.contracts.mark.Mark.{the_type}
use Rattle.wide_reader.specs.declared.level.Level.TheVariants as level

-- the word by equations
abbrev Says : (l : WideLook) → WideWord → WideFoundBy l → Type 0
Says (at m) w x = Unit {0}
Says (in_literal c m) w x = Unit {0}
Says (named test) w n = w ≡ name n
Says back_quoted w n = w ≡ quoted n
Says constant w v = literal_of w ≡ Some v
Says (operator l) w op = operator_of w ≡ Some op

says : {l : WideLook} {w : WideWord} {x : WideFoundBy l} → WideIs l w x → Says l w x
says this_mark = tt
says (this_one e) = tt
says (this_name e) = refl
says (this_quoted e) = refl
says (this_literal e) = e
says (this_operator e f) = e

one_said : (l : WideLook) (w : WideWord) (x y : WideFoundBy l) → Says l w x → Says l w y → x ≡ y
one_said (at m) w x y e f = refl
one_said (in_literal c m) w x y e f = refl
one_said (named test) w x y e f = cc
one_said back_quoted w x y e f = cc
one_said constant w x y e f = cc
one_said (operator l) w x y e f = cc

pub one_found : {l : WideLook} {w : WideWord} {x y : WideFoundBy l} → WideIs l w x → WideIs l w y → x ≡ y
one_found {l} {w} {x} {y} i j = one_said l w x y (says i) (says j)

pub not_both : {l : WideLook} {w : WideWord} {x : WideFoundBy l} → WideIs l w x → WideIsNot l w → ⊥
not_both this_mark n = n refl
not_both (this_one e) n = n e refl
not_both (this_name {n = k} e) n = let f : true ≡ false = sym e ∙ n k refl in cc
not_both (this_quoted {n = k} e) n = let f : true ≡ false = sym e ∙ n k refl in cc
not_both (this_literal {v = v} e) n = let f : Some v ≡ None = sym e ∙ n in cc
not_both (this_operator {op = op} e f) n = n op e f

-- ---- lookahead, computed

-- found in the first word, or not found
pub data Seen (l : WideLook) : List WideWord → Type 0 where
  yes : {w : WideWord} {ws : List WideWord} (x : WideFoundBy l) → WideIs l w x → Seen l (w ∷ ws)
  no : {ws : List WideWord} → WideIsNotNext l ws → Seen l ws

pub mark_is : (m n : Mark) → n ≡ m → WideIs (at m) (mark n) tt
mark_is m n e = rw e this_mark

unfoldable pub mark_by : (m n : Mark) (us : List WideWord) (b : Bool) → sameb the_type n m ≡ b → Seen (at m) (mark n ∷ us)
mark_by m n us true e = yes tt (mark_is m n (same_true the_type tt n m e))
mark_by m n us false e = no (λ f. same_false the_type n m e (cc))

pub other_one : (c : Closing) (m : Mark) (ws : List WideWord) → takes_comma c ≡ false → WideIsNotNext (in_literal c m) ws
other_one c m [] e = tt
other_one c m (w ∷ ws) e = λ f. let g : true ≡ false = sym f ∙ e in cc

pub one_is : {w : WideWord} {x : Unit {0}} (c : Closing) (m : Mark) → takes_comma c ≡ true → WideIs (at m) w x → WideIs (in_literal c m) w tt
one_is c m e this_mark = this_one e

unfoldable pub one_by : (c : Closing) (m : Mark) (ws : List WideWord) (b : Bool) → takes_comma c ≡ b → Seen (at m) ws → Seen (in_literal c m) ws
one_by c m ws true e (yes x i) = yes tt (one_is c m e i)
one_by c m [] true e (no n) = no tt
one_by c m (w ∷ ws) true e (no n) = no (λ f. n)
one_by c m ws false e s = no (other_one c m ws e)

pub other_name : (test : List ℕ → Bool) (n : List ℕ) → test n ≡ false → WideIsNot (named test) (name n)
other_name test n e m f = cc

unfoldable pub name_by : (test : List ℕ → Bool) (n : List ℕ) (us : List WideWord) (b : Bool) → test n ≡ b → Seen (named test) (name n ∷ us)
name_by test n us true e = yes n (this_name e)
name_by test n us false e = no (other_name test n e)

pub other_quoted : (n : List ℕ) → is_quoted_name n ≡ false → WideIsNot back_quoted (quoted n)
other_quoted n e m f = cc

unfoldable pub quoted_by : (n : List ℕ) (us : List WideWord) (b : Bool) → is_quoted_name n ≡ b → Seen back_quoted (quoted n ∷ us)
quoted_by n us true e = yes n (this_quoted e)
quoted_by n us false e = no (other_quoted n e)

unfoldable pub literal_by : (w : WideWord) (us : List WideWord) (o : Option Wide) → literal_of w ≡ o → Seen constant (w ∷ us)
literal_by w us (Some v) e = yes v (this_literal e)
literal_by w us None e = no e

unfoldable pub one_level : (k l : Level) → (k ≡ l) ⊎ (k ≢ l)
one_level level.Or level.Or = inl refl
one_level level.And level.And = inl refl
one_level level.Relation level.Relation = inl refl
one_level level.Sum level.Sum = inl refl
one_level level.Product level.Product = inl refl
one_level k l = inr (λ e. cc)

pub other_level : (l : Level) (op other : BinaryOperator) (o : Option BinaryOperator) → o ≡ Some op → (level_of op ≢ l) → o ≡ Some other → level_of other ≢ l
other_level l op other o e n f g = n cc

unfoldable pub operator_by : (l : Level) (w : WideWord) (us : List WideWord) (o : Option BinaryOperator) → operator_of w ≡ o → Seen (operator l) (w ∷ us)
operator_by l w us None e = no (λ op x y. cc)
operator_by l w us (Some op) e = elim (one_level (level_of op) l) [
  | inl f ↦ yes op (this_operator e f)
  | inr f ↦ no (λ other x. other_level l op other (operator_of w) e f x)
]

unfoldable pub mark_seen : (m : Mark) (ws : List WideWord) → Seen (at m) ws
mark_seen m [] = no tt
mark_seen m (mark n ∷ us) = mark_by m n us (sameb the_type n m) refl
mark_seen m (w ∷ us) = no (λ e. cc)

unfoldable pub seen : (l : WideLook) (ws : List WideWord) → Seen l ws
seen (at m) ws = mark_seen m ws
seen (in_literal c m) ws = one_by c m ws (takes_comma c) refl (mark_seen m ws)
seen l [] = no tt
seen (named test) (name n ∷ us) = name_by test n us (test n) refl
seen (named test) (w ∷ us) = no (λ n e. cc)
seen back_quoted (quoted n ∷ us) = quoted_by n us (is_quoted_name n) refl
seen back_quoted (w ∷ us) = no (λ n e. cc)
seen constant (w ∷ us) = literal_by w us (literal_of w) refl
seen (operator l) (w ∷ us) = operator_by l w us (operator_of w) refl
