-- The front of a text, by cases.
use Rattle.cel_tokens.proofs.Prelude.{◌≡◌, ℕ, ◌≤◌, List, [], ◌∷◌, take, drop, refl, arith, Bool, true, false, Option, Some, None, ◌==◌, ◌&&◌, if◌then◌else◌, nat_lt, nat_tests, name, is_letter, is_name_byte, is_digit_of, run, between, mark_at, opening, opening_len, content, digit_begins, front, front_word, front_text, front_int, front_mark, before_digits, signed_int_begins}
use Rattle.cel_tokens.specs.Lexed as front

pub data Found (signed : Bool) (b : ℕ) (bs : List ℕ) : front.Lexed → Type 0 where
  a_gap : (n : ℕ) → 1 ≤ n → n ≡ between false (b ∷ bs) → Found signed b bs (front.space n)
  a_text : (raw : Bool) (quote : ℕ) → opening (b ∷ bs) ≡ Some (raw, quote)
      → Found signed b bs (front_text (opening_len raw) (content raw quote 0 0 [] (drop (opening_len raw) (b ∷ bs))))
  a_name : opening (b ∷ bs) ≡ None → is_letter b ≡ true
      → Found signed b bs (front.word (run is_name_byte (b ∷ bs)) (name (take (run is_name_byte (b ∷ bs)) (b ∷ bs))))
  an_int : opening (b ∷ bs) ≡ None → is_digit_of 10 b ≡ true → Found signed b bs (front_int false 0 (b ∷ bs))
  a_signed_int : opening (b ∷ bs) ≡ None → b ≡ 45 → signed ≡ true
      → digit_begins (drop (before_digits (b ∷ bs)) (b ∷ bs)) ≡ true
      → Found signed b bs (front_int true (before_digits (b ∷ bs)) (drop (before_digits (b ∷ bs)) (b ∷ bs)))
  a_mark : opening (b ∷ bs) ≡ None → is_letter b ≡ false → Found signed b bs (front_mark (mark_at (b ∷ bs)))

begins_with_minus : (b : ℕ) (t : Bool) → ((b == 45) && t) ≡ true → (b ≡ 45) × (t ≡ true)
begins_with_minus b t e = (grind (arith, nat_tests), grind (arith, nat_tests))

module _ (signed : Bool) (b : ℕ) (bs : List ℕ) where
  by_sign : (s t : Bool) → opening (b ∷ bs) ≡ None → is_letter b ≡ false → signed ≡ s → signed_int_begins b (b ∷ bs) ≡ t
      → Found signed b bs (if s && t then front_int true (before_digits (b ∷ bs)) (drop (before_digits (b ∷ bs)) (b ∷ bs)) else front_mark (mark_at (b ∷ bs)))
  by_sign true true o l e f = let m = begins_with_minus b (digit_begins (drop (before_digits (b ∷ bs)) (b ∷ bs))) f in a_signed_int o m.0 e m.1
  by_sign _ _ o l e f = a_mark o l

  by_first : (l d : Bool) → opening (b ∷ bs) ≡ None → is_letter b ≡ l → is_digit_of 10 b ≡ d
      → Found signed b bs (if l then front.word (run is_name_byte (b ∷ bs)) (name (take (run is_name_byte (b ∷ bs)) (b ∷ bs)))
      else (if d then front_int false 0 (b ∷ bs)
      else (if signed && signed_int_begins b (b ∷ bs) then front_int true (before_digits (b ∷ bs)) (drop (before_digits (b ∷ bs)) (b ∷ bs))
      else front_mark (mark_at (b ∷ bs)))))
  by_first true d o e f = a_name o e
  by_first false true o e f = an_int o f
  by_first false false o e f = by_sign signed (signed_int_begins b (b ∷ bs)) o e refl refl

  by_opening : (o : Option (Bool × ℕ)) → opening (b ∷ bs) ≡ o → Found signed b bs (front_word signed b (b ∷ bs) o)
  by_opening (Some (raw, quote)) e = a_text raw quote e
  by_opening None e = by_first (is_letter b) (is_digit_of 10 b) e refl refl

  by_gap : (t : Bool) → nat_lt 0 (between false (b ∷ bs)) ≡ t
      → Found signed b bs (if t then front.space (between false (b ∷ bs)) else front_word signed b (b ∷ bs) (opening (b ∷ bs)))
  by_gap true e = a_gap (between false (b ∷ bs)) (grind (arith, nat_tests)) refl
  by_gap false e = by_opening (opening (b ∷ bs)) refl

pub found : (signed : Bool) (b : ℕ) (bs : List ℕ) → Found signed b bs (front signed (b ∷ bs))
unfolding front
found signed b bs = by_gap signed b bs (nat_lt 0 (between false (b ∷ bs))) refl
