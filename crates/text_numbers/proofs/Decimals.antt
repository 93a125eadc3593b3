-- Digits at the front, and the number that digits denote, capped.
use Rattle.std.proofs.Common.{◌≡◌, ◌∙◌, ◌∷◌, ◌++◌, ℕ, zero, suc, ◌+◌, ◌*◌, ◌-◌, ◌^◌, ◌<◌, ◌≤◌, Bool, true, false, cond, List, [], length, get_or, take, drop, min, refl, sym, ap, ap₂, subst, arith, ◌==◌, ◌&&◌}
use Rattle.std.proofs.Math.Nat.{mul-le-mul_right, pow-succ'}
use Rattle.std.proofs.Math.Seq.{drop-cons}
use Rattle.std.proofs.lemmas.Bool.{and_parts, cases_lt}
use Rattle.std.proofs.lemmas.Bool.Decides.{nat_tests}
use Rattle.std.proofs.lemmas.List.Sums.{prefix_len-drop_all, prefix_len-drop_no, prefix_len-drop_yes}
use Rattle.std.specs.Char.{is_ascii_digit}
use Rattle.std.specs.List.{list_all, prefix_len}
use Rattle.text_numbers.specs.Numbers.{AreAllDigits, IsFraction, Written, digits_len, fraction_len, number, number_after, written}
use mathlib.Core.Logic.{inl, inr}

pub digits_empty : (xs : List ℕ) (n : ℕ) → length xs ≤ n → digits_len (drop n xs) ≡ 0
digits_empty xs n h = prefix_len-drop_all is_ascii_digit xs n h

pub digits_more : (xs : List ℕ) (n : ℕ) → n < length xs → is_ascii_digit (get_or xs n 0) ≡ true → digits_len (drop n xs) ≡ 1 + digits_len (drop (n + 1) xs)
digits_more xs n h e = prefix_len-drop_yes is_ascii_digit xs n 0 h e

pub digits_stop : (xs : List ℕ) (n : ℕ) → n < length xs → is_ascii_digit (get_or xs n 0) ≡ false → digits_len (drop n xs) ≡ 0
digits_stop xs n h e = prefix_len-drop_no is_ascii_digit xs n 0 h e

pub number_empty : (v : ℕ) (xs : List ℕ) (n : ℕ) → length xs ≤ n → number_after v (drop n xs) ≡ v
unfolding number_after
number_empty v [] zero h = refl
number_empty v [] (suc n) h = refl
number_empty v (x ∷ xs) zero h = absurd (omega arith)
number_empty v (x ∷ xs) (suc n) h = number_empty v xs n (omega arith)

at_least : (v : ℕ) (xs : List ℕ) → v ≤ number_after v xs
unfolding number_after
at_least v [] = omega arith
at_least v (x ∷ xs) = let b = at_least (v * 10 + (x - 48)) xs in omega (arith, b)

kept_small : (v m : ℕ) (xs : List ℕ) → v ≤ m → min (number_after (min v m) xs) m ≡ min (number_after v xs) m
kept_small v m xs h = let e : min v m ≡ v = omega arith in rw e refl

-- below the bound, digits denote the same number whether or not the number so far was capped
kept : (v m : ℕ) (xs : List ℕ) → min (number_after (min v m) xs) m ≡ min (number_after v xs) m
kept v m xs = elim (cases_lt m v) [ inl h ↦ (grind (arith, at_least)) | inr h ↦ kept_small v m xs h ]

step : (v : ℕ) (xs : List ℕ) (n : ℕ) → n < length xs → number_after v (drop n xs) ≡ number_after (v * 10 + (get_or xs n 0 - 48)) (drop (n + 1) xs)
unfolding number_after
step v xs n h = let q : n + 1 ≡ suc n = omega arith in rw (q, drop-cons xs n 0) refl

pub number_more : (v m : ℕ) (xs : List ℕ) (n : ℕ) → n < length xs
    → min (number_after (min (min (v * 10) m + (get_or xs n 0 - 48)) m) (drop (n + 1) xs)) m ≡ min (number_after v (drop n xs)) m
number_more v m xs n h =
    let e : min (min (v * 10) m + (get_or xs n 0 - 48)) m ≡ min (v * 10 + (get_or xs n 0 - 48)) m = omega arith in
    rw (e, step v xs n h) (kept (v * 10 + (get_or xs n 0 - 48)) m (drop (n + 1) xs))

appended : (v : ℕ) (xs ys : List ℕ) → number_after v (xs ++ ys) ≡ number_after (number_after v xs) ys
unfolding number_after
appended v [] ys = refl
appended v (x ∷ xs) ys = appended (v * 10 + (x - 48)) xs ys

pub joined : (m : ℕ) (xs ys : List ℕ) → min (number_after (min (number_after 0 xs) m) ys) m ≡ min (number_after 0 (xs ++ ys)) m
joined m xs ys = rw (appended 0 xs ys) (kept (number_after 0 xs) m ys)

one_digit : (x : ℕ) → is_ascii_digit x ≡ true → x - 48 ≤ 9
one_digit x e = grind (arith, nat_tests)

grows : (n d p : ℕ) → d ≤ 9 → (n * 10 + d + 1) * p ≤ (n + 1) * (10 * p)
grows n d p h =
    let a : (n * 10 + d + 1) * p ≤ ((n + 1) * 10) * p = mul-le-mul_right p (omega arith) in
    omega (arith, a)

-- digits denote less than the power of 10
below : (n : ℕ) (ds : List ℕ) → AreAllDigits ds → number_after n ds < (n + 1) * 10 ^ length ds
unfolding number_after
below n [] h = omega arith
below n (d ∷ ds) h =
    let parts = and_parts (is_ascii_digit d) (list_all is_ascii_digit ds) h in
    let b : number_after (n * 10 + (d - 48)) ds < (n * 10 + (d - 48) + 1) * 10 ^ length ds = below (n * 10 + (d - 48)) ds parts.1 in
    let g : (n * 10 + (d - 48) + 1) * 10 ^ length ds ≤ (n + 1) * (10 * 10 ^ length ds) = grows n (d - 48) (10 ^ length ds) (one_digit d parts.0) in
    let k : 10 ^ suc (length ds) ≡ 10 * 10 ^ length ds = pow-succ' 10 (length ds) in
    rw k (omega (arith, b, g))

front_by : (x : ℕ) (xs : List ℕ) (t : Bool) → is_ascii_digit x ≡ t → AreAllDigits (take (prefix_len is_ascii_digit xs) xs) → AreAllDigits (take (cond t (1 + prefix_len is_ascii_digit xs) 0) (x ∷ xs))
front_by x xs true e h =
    let q : 1 + prefix_len is_ascii_digit xs ≡ suc (prefix_len is_ascii_digit xs) = omega arith in
    rw q (ap₂ (λ a b. a && b) e h)
front_by x xs false e h = refl

pub digits_front : (xs : List ℕ) → AreAllDigits (take (prefix_len is_ascii_digit xs) xs)
digits_front [] = refl
digits_front (x ∷ xs) = front_by x xs (is_ascii_digit x) refl (digits_front xs)

pub digits_take : (n : ℕ) (ds : List ℕ) → AreAllDigits ds → AreAllDigits (take n ds)
digits_take zero ds h = refl
digits_take (suc n) [] h = refl
digits_take (suc n) (d ∷ ds) h =
    let parts = and_parts (is_ascii_digit d) (list_all is_ascii_digit ds) h in
    ap₂ (λ a b. a && b) parts.0 (digits_take n ds parts.1)

pub small_number : (ds : List ℕ) → AreAllDigits ds → number ds < 10 ^ length ds
small_number ds h = let b = below 0 ds h in omega (arith, b)

point_by : (text : List ℕ) (t : Bool) (b : ℕ) → IsFraction (drop 1 (take (cond t (suc (digits_len text)) 0) (b ∷ text)))
unfolding number_after
point_by text true b = small_number (take (digits_len text) text) (digits_front text)
point_by text false b = omega arith

-- the digits after a point denote less than 1
pub fraction_small : (text : List ℕ) → IsFraction (drop 1 (take (fraction_len text) text))
unfolding number_after
fraction_small [] = omega arith
fraction_small (b ∷ text) = point_by text (b == 46) b

pub written_is : (text whole after pointed rest fraction : List ℕ) (n m : ℕ) → n ≡ digits_len text → whole ≡ take n text → after ≡ drop n text → m ≡ fraction_len after → pointed ≡ take m after → rest ≡ drop m after → fraction ≡ drop 1 pointed
    → (let s : Written = record { whole = whole; fraction = fraction; rest = rest } in s ≡ written text)
written_is text whole after pointed rest fraction n m e f g h p q j =
    let w : whole ≡ take (digits_len text) text = f ∙ ap (λ k. take k text) e in
    let a : after ≡ drop (digits_len text) text = g ∙ ap (λ k. drop k text) e in
    let x : fraction ≡ drop 1 (take (fraction_len (drop (digits_len text) text)) (drop (digits_len text) text)) =
    j ∙ ap (drop 1) (p ∙ ap (λ k. take k after) h) ∙ ap (λ r. drop 1 (take (fraction_len r) r)) a in
    let y : rest ≡ drop (fraction_len (drop (digits_len text) text)) (drop (digits_len text) text) = q ∙ ap (λ k. drop k after) h ∙ ap (λ r. drop (fraction_len r) r) a in
    λ k. record { whole = w k; fraction = x k; rest = y k }

pub fraction_is : (after pointed fraction : List ℕ) (m : ℕ) → m ≡ fraction_len after → pointed ≡ take m after → fraction ≡ drop 1 pointed → IsFraction fraction
fraction_is after pointed fraction m h p j =
    let x : fraction ≡ drop 1 (take (fraction_len after) after) = j ∙ ap (drop 1) (p ∙ ap (λ k. take k after) h) in
    subst IsFraction (sym x) (fraction_small after)
