-- What clap parses as a u64 is the number that the text represents.
use Rattle.cli.proofs.Prelude.{◌≡◌, ℕ, ◌^◌, ◌<◌, List, [], ◌∷◌, Option, Some, None, Result, true, refl, ◌∙◌, arith, and_from, and_parts, lt-ltb, ltb-true, AllDigits, IsNumeral, ParsesUnsigned, digits_value, ReadsOne, are_digits, number_written, number_of}

-- ---- a test is true if the facts that it tests hold

digits_true : (t : List ℕ) → AllDigits 10 t → are_digits t ≡ true
digits_true [] h = refl
digits_true (c ∷ cs) h = and_from _ _ (lt-ltb _ _ h.0) (digits_true cs h.1)

of_digits_true : (t : List ℕ) → are_digits t ≡ true → AllDigits 10 t
of_digits_true [] p = tt
of_digits_true (c ∷ cs) p =
    let parts = and_parts _ _ p in (ltb-true _ _ parts.0, of_digits_true cs parts.1)

-- ---- a text without its plus sign

abbrev Fits : List ℕ → Type 0
Fits t = IsNumeral 10 t × (digits_value 10 t < 2 ^ 64)

when_it_fits : (t : List ℕ) (v : ℕ) → Fits t → v ≡ digits_value 10 t → Some v ≡ number_written t
when_it_fits t v h is = grind (arith, and_from, digits_true, lt-ltb)

unless_it_fits : (t : List ℕ) → (Fits t → ⊥) → None ≡ number_written t
unless_it_fits t not_so = grind (arith, and_parts, ltb-true, of_digits_true)

-- ---- the number that was parsed, where Read states how clap parses a text

pub of_a_text : {E : Type 0} (Read : List ℕ → Result ℕ E → Type 0) (t : List ℕ) (r : Option ℕ)
    → ReadsOne Read t r → ((x : Result ℕ E) → Read t x → ParsesUnsigned 64 10 t x)
    → r ≡ number_of (Some t)
unfolding number_of
of_a_text Read t r h parses = grind (arith, when_it_fits, unless_it_fits)

pub of_no_text : None ≡ number_of None
unfolding number_of
of_no_text = refl

pub of_a_value : {E : Type 0} (Read : List ℕ → Result ℕ E → Type 0) (text : Option (List ℕ))
    (r : Option ℕ) → (text ≡ None → r ≡ None)
    → ((t : List ℕ) → text ≡ Some t → ReadsOne Read t r)
    → ((t : List ℕ) (x : Result ℕ E) → Read t x → ParsesUnsigned 64 10 t x)
    → r ≡ number_of text
of_a_value Read None r absent read parses = absent refl ∙ of_no_text
of_a_value Read (Some t) r absent read parses = of_a_text Read t r (read t refl) (parses t)
