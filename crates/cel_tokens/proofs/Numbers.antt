-- The number that digits denote, capped at 64 bits.
use Rattle.cel_tokens.proofs.Prelude.{◌≡◌, ℕ, suc, zero, ◌+◌, ◌*◌, ◌-◌, ◌^◌, ◌<◌, ◌≤◌, List, [], ◌∷◌, length, get_or, drop, refl, arith, drop-cons, Bool, le-mul_of_pos_right, cases_lt, min, digit_value, number_from, int_of}
use mathlib.Core.Logic.{inl, inr}

larger : (base n d : ℕ) → 1 ≤ base → n ≤ n * base + d
larger base n d h = let a = le-mul_of_pos_right {m = base} n (omega arith) in omega (arith, a)

pub number_empty : (base v : ℕ) (xs : List ℕ) (n : ℕ) → length xs ≤ n → number_from base v (drop n xs) ≡ v
unfolding number_from
number_empty base v [] zero h = refl
number_empty base v [] (suc n) h = refl
number_empty base v (x ∷ xs) zero h = absurd (omega arith)
number_empty base v (x ∷ xs) (suc n) h = number_empty base v xs n (omega arith)

at_least : (base v : ℕ) (xs : List ℕ) → 1 ≤ base → v ≤ number_from base v xs
unfolding number_from
at_least base v [] h = omega arith
at_least base v (x ∷ xs) h =
    let a = larger base v (digit_value x) h in
    let b = at_least base (v * base + digit_value x) xs h in
    omega (arith, a, b)

kept_small : (base v m : ℕ) (xs : List ℕ) → v ≤ m → min (number_from base (min v m) xs) m ≡ min (number_from base v xs) m
kept_small base v m xs h = let e : min v m ≡ v = omega arith in rw e refl

-- below the bound, digits denote the same number whether or not the number so far was capped
kept : (base v m : ℕ) (xs : List ℕ) → 1 ≤ base → min (number_from base (min v m) xs) m ≡ min (number_from base v xs) m
kept base v m xs b = elim (cases_lt m v) [ inl h ↦ (grind (arith, at_least)) | inr h ↦ kept_small base v m xs h ]

step : (base v : ℕ) (xs : List ℕ) (n : ℕ) → n < length xs → number_from base v (drop n xs) ≡ number_from base (v * base + digit_value (get_or xs n 0)) (drop (n + 1) xs)
unfolding number_from
step base v xs n h = let q : n + 1 ≡ suc n = omega arith in rw (q, drop-cons xs n 0) refl

pub number_more : (base v m : ℕ) (xs : List ℕ) (n : ℕ) → 1 ≤ base → n < length xs
    → min (number_from base (min (min (v * base) m + digit_value (get_or xs n 0)) m) (drop (n + 1) xs)) m ≡ min (number_from base v (drop n xs)) m
number_more base v m xs n b h =
    let e : min (min (v * base) m + digit_value (get_or xs n 0)) m ≡ min (v * base + digit_value (get_or xs n 0)) m = omega arith in
    rw (e, step base v xs n h) (kept base (v * base + digit_value (get_or xs n 0)) m (drop (n + 1) xs) b)

-- an int is the same whether or not its absolute value was capped at 64 bits
pub kept_int : (minus : Bool) (m : ℕ) → int_of minus (min m (2 ^ 64 - 1)) ≡ int_of minus m
kept_int minus m = grind arith
