-- Sixteen hex digits, as the standard library prints them.
use Rattle.insn_codec.proofs.Prelude.{◌≡◌, ℕ, zero, suc, ◌+◌, ◌-◌, ◌/◌, ◌%◌, ◌^◌, ◌<◌, ◌≤◌, List, [], ◌∷◌, ◌++◌, length, replicate, false, refl, sym, ap, ◌∙◌, arith, inl, inr, append-nil, append_assoc, rules, cases_lt, digits_onto, format_spec, hex_digits, hex_digit}
use Rattle.std.specs.Fmt.{digits, padded_integral, char_count}

replicate-push : (k : ℕ) → replicate {A = ℕ} k 48 ++ 48 ∷ [] ≡ 48 ∷ replicate k 48
replicate-push zero = refl
replicate-push (suc k) = ap (λ (ds : List ℕ). 48 ∷ ds) (replicate-push k)

hex_digits-zero : (k : ℕ) → hex_digits k 0 ≡ replicate k 48
unfolding hex_digits
hex_digits-zero zero = refl
hex_digits-zero (suc k) = ap (λ (ds : List ℕ). ds ++ 48 ∷ []) (hex_digits-zero k) ∙ replicate-push k

-- the digits with leading zeros, k in all, before acc
filled : ℕ → List ℕ → List ℕ → List ℕ
filled k acc ds = replicate (k + length acc - length ds) 48 ++ ds

filled-last : (j d : ℕ) (acc : List ℕ) → filled (suc j) acc (d ∷ acc) ≡ (replicate j 48 ++ d ∷ []) ++ acc
unfolding filled
filled-last j d acc = grind (arith, append_assoc)

filled-more : (j d : ℕ) (acc ds front : List ℕ) → filled j (d ∷ acc) ds ≡ front ++ d ∷ acc → filled (suc j) acc ds ≡ (front ++ d ∷ []) ++ acc
unfolding filled
filled-more j d acc ds front e = grind (arith, append_assoc)

quotient_small : (j n : ℕ) → n < 16 ^ suc j → n / 16 < 16 ^ j
quotient_small j n small = omega arith

hex_digits-one : (j n : ℕ) → n < 16 → hex_digits (suc j) n ≡ replicate j 48 ++ hex_digit (n % 16) ∷ []
unfolding hex_digits
hex_digits-one j n one = grind (arith, hex_digits-zero)

hex_digits-more : (j n : ℕ) → hex_digits (suc j) n ≡ hex_digits j (n / 16) ++ hex_digit (n % 16) ∷ []
unfolding hex_digits
hex_digits-more j n = refl

-- the digits that the library prints before acc, with leading zeros
digits_onto-filled : (k fuel n : ℕ) (acc : List ℕ) → 0 < k → k ≤ fuel → n < 16 ^ k → filled k acc (digits_onto fuel 16 false n acc) ≡ hex_digits k n ++ acc
digits_onto-filled zero fuel n acc some fits small = absurd (omega arith)
digits_onto-filled (suc j) zero n acc some fits small = absurd (omega arith)
digits_onto-filled (suc j) (suc fuel) n acc some fits small =
    let d : ℕ = hex_digit (n % 16) in
    elim (cases_lt n 16) [
      | inl one ↦
          ap (filled (suc j) acc) (grind arith) ∙ filled-last j d acc ∙ ap (λ (ds : List ℕ). ds ++ acc) (sym (hex_digits-one j n one))
      | inr more ↦
          ap (filled (suc j) acc) (grind arith)
          ∙ filled-more j d acc _ (hex_digits j (n / 16)) (digits_onto-filled j fuel (n / 16) (d ∷ acc) (grind arith) (omega arith) (quotient_small j n small))
          ∙ ap (λ (ds : List ℕ). ds ++ acc) (sym (hex_digits-more j n))
    ]

padded_integral-filled : (ds : List ℕ) → padded_integral (format_spec 32 0 4 16 (2 ^ 64 - 1)) false [] ds ≡ filled 16 [] ds
unfolding padded_integral filled char_count
padded_integral-filled ds = grind (arith, append-nil)

digits-onto : (n : ℕ) → digits 16 false n ≡ digits_onto 64 16 false n []
unfolding digits
digits-onto n = refl

-- the text that `{:016x}` writes for a word
pub hex_word : (n : ℕ) → n < 2 ^ 64 → padded_integral (format_spec 32 0 4 16 (2 ^ 64 - 1)) false [] (digits 16 false n) ≡ hex_digits 16 n
hex_word n small = search (rules, padded_integral-filled, digits-onto, digits_onto-filled, append-nil)
