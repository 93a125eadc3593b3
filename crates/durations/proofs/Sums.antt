-- Durations: the size of a number in a unit, and the sum of numbers.
use Rattle.std.proofs.Common.{◌≡◌, ◌∙◌, ◌∷◌, ℕ, zero, suc, ◌+◌, ◌*◌, ◌-◌, ◌/◌, ◌^◌, ◌<◌, ◌≤◌, ◌==◌, ◌&&◌, not, Bool, true, false, cond, List, [], length, take, drop, min, refl, sym, ap, ap₂, subst, arith, nat_le, nat_lt, lit<, Option, Some, None, Result, Ok, Err, length-drop, length-take}
use Rattle.std.proofs.Math.Nat.{mul-le-mul_right, one-le-pow, pow-le-pow_right}
use Rattle.std.proofs.lemmas.Bool.Decides.{nat_tests}
use Rattle.text_numbers.specs.Numbers.{IsFraction, Written, digits_len, fraction_len, number, written}
use Rattle.durations.specs.Durations.{after_number, and_then, exact, first_number, has_digit, in_unit, limited, nanoseconds, next, places, sum_after, total, unit_len, unit_named, with_unit}
use Rattle.durations.specs.declared.duration_error.DurationError.{DurationError}
use Rattle.durations.specs.declared.duration_error.DurationError.TheVariants.{Invalid}
use Rattle.durations.specs.declared.time_unit.TimeUnit.{TimeUnit}
use Rattle.durations.specs.declared.time_unit.TimeUnit.TheVariants.{Hour, Minute, Second, Millisecond, Microsecond, Nanosecond}

pub pow_small : (n : ℕ) → n ≤ 11 → 10 ^ n ≤ 100000000000
pow_small n h = pow-le-pow_right {n = 10} (lit< tt) h

pub pow_some : (n : ℕ) → 1 ≤ 10 ^ n
pow_some n = one-le-pow n 10 (lit< tt)

places_small : (unit : TimeUnit) → places unit ≤ 11
places_small Hour = omega arith
places_small Minute = omega arith
places_small Second = omega arith
places_small Millisecond = omega arith
places_small Microsecond = omega arith
places_small Nanosecond = omega arith

some_size : (unit : TimeUnit) → 1 ≤ nanoseconds unit
some_size Hour = omega arith
some_size Minute = omega arith
some_size Second = omega arith
some_size Millisecond = omega arith
some_size Microsecond = omega arith
some_size Nanosecond = omega arith

not_finer : (a b : ℕ) → b ≤ a → nat_lt a b ≡ false
not_finer a b h = grind (arith, nat_tests)

within_limit : (n : ℕ) → 2 ^ 63 < n → nat_le n (2 ^ 63) ≡ false
within_limit n h = grind (arith, nat_tests)

pub unit_is : (s : Written) (unit : TimeUnit) (w f n size : ℕ) (r : Result ℕ DurationError) → length s.fraction ≤ places unit → w ≡ min (number s.whole) (2 ^ 128 - 1) → w ≤ 2 ^ 63
    → f ≡ min (number s.fraction) (2 ^ 128 - 1) → IsFraction s.fraction → n ≡ nanoseconds unit → size ≡ w * n + f * n / 10 ^ length s.fraction → r ≡ limited size → r ≡ in_unit s unit
unit_is s unit w f n size r fine ew small ef frac en es er =
    let t : nat_lt (places unit) (length s.fraction) ≡ false = not_finer (places unit) (length s.fraction) fine in
    let p : 10 ^ length s.fraction ≤ 100000000000 = pow_small (length s.fraction) (omega (arith, places_small unit)) in
    let a : number s.whole ≡ w = omega arith in
    let b : number s.fraction ≡ f = omega (arith, frac) in
    let e : exact s unit ≡ size = ap₂ (λ x y. x * nanoseconds unit + y * nanoseconds unit / 10 ^ length s.fraction) a b ∙ ap (λ k. w * k + f * k / 10 ^ length s.fraction) (sym en) ∙ sym es in
    rw t (er ∙ ap limited (sym e))

pub too_large : (s : Written) (unit : TimeUnit) (w : ℕ) → length s.fraction ≤ places unit → w ≡ min (number s.whole) (2 ^ 128 - 1) → 2 ^ 63 < w → Err Invalid ≡ in_unit s unit
too_large s unit w fine ew large =
    let t : nat_lt (places unit) (length s.fraction) ≡ false = not_finer (places unit) (length s.fraction) fine in
    let a : 1 * number s.whole ≤ nanoseconds unit * number s.whole = mul-le-mul_right (number s.whole) (some_size unit) in
    let b : 2 ^ 63 < exact s unit = omega arith in
    let u : nat_le (exact s unit) (2 ^ 63) ≡ false = within_limit (exact s unit) b in
    rw (t, u) refl

-- a number that was read has a digit, so what follows it is shorter

has_by : (s : Written) (unit : TimeUnit) (v : ℕ) (t : Bool) → has_digit s ≡ t → cond t (in_unit s unit) (Err Invalid) ≡ Ok v → has_digit s ≡ true
has_by s unit v true e h = e
has_by s unit v false e h = let no : Err Invalid ≡ Ok v = h in cc

has_of : (s : Written) (o : Option TimeUnit) (v : ℕ) → with_unit s o ≡ Ok v → has_digit s ≡ true
has_of s None v h = let no : Err Invalid ≡ Ok v = h in cc
has_of s (Some unit) v h = has_by s unit v (has_digit s) refl h

first_ok : (d : ℕ) (r : Result ℕ DurationError) (t : ℕ) → total d r ≡ Ok t → (v : ℕ) × (r ≡ Ok v)
first_ok d (Ok v) t h = (v, refl)
first_ok d (Err e) t h = let no : Err e ≡ Ok t = h in cc

some_digit : (a b : ℕ) → not ((a == 0) && (b == 0)) ≡ true → 1 ≤ a + b
some_digit a b e = grind (arith, nat_tests)

pub progress : (text : List ℕ) (d t : ℕ) → next d (written text) ≡ Ok t → length (after_number (written text)) < length text
unfolding next
progress text d t h =
    let s = written text in
    let f = first_ok d (first_number s) t h in
    let e = has_of s (unit_named (take (unit_len s.rest) s.rest)) f.0 f.1 in
    let p : 1 ≤ length s.whole + length s.fraction = some_digit (length s.whole) (length s.fraction) e in
    let n = digits_len text in
    let r = drop n text in
    let m = fraction_len r in
    omega (arith, p, length-take n text, length-drop n text, length-take m r, length-drop m r, length-drop 1 (take m r), length-drop (unit_len s.rest) s.rest)

fuel_none : (m n d : ℕ) → sum_after m d [] ≡ sum_after n d []
unfolding sum_after
fuel_none zero zero d = refl
fuel_none zero (suc n) d = refl
fuel_none (suc m) zero d = refl
fuel_none (suc m) (suc n) d = refl

and_same : (r : Result ℕ DurationError) (f g : ℕ → Result ℕ DurationError) → ((v : ℕ) → r ≡ Ok v → f v ≡ g v) → and_then r f ≡ and_then r g
and_same (Ok v) f g h = h v refl
and_same (Err e) f g h = refl

-- a sum needs no more steps than bytes
fuel : (m n d : ℕ) (text : List ℕ) → length text ≤ m → length text ≤ n → sum_after m d text ≡ sum_after n d text
unfolding sum_after
fuel m n d [] h k = fuel_none m n d
fuel zero n d (b ∷ text) h k = absurd (omega arith)
fuel (suc m) zero d (b ∷ text) h k = absurd (omega arith)
fuel (suc m) (suc n) d (b ∷ text) h k =
    and_same (next d (written (b ∷ text))) (λ e. sum_after m e (after_number (written (b ∷ text)))) (λ e. sum_after n e (after_number (written (b ∷ text))))
    (λ t e. let p = progress (b ∷ text) d t e in fuel m n t (after_number (written (b ∷ text))) (omega arith) (omega arith))

opened : (b : ℕ) (text : List ℕ) (d : ℕ) (r : Result ℕ DurationError) → next d (written (b ∷ text)) ≡ r
    → sum_after (length (b ∷ text)) d (b ∷ text) ≡ and_then r (λ e. sum_after (length text) e (after_number (written (b ∷ text))))
unfolding sum_after
opened b text d r e = ap (λ x. and_then x (λ u. sum_after (length text) u (after_number (written (b ∷ text))))) e

pub sum_step : (rest after : List ℕ) (d t : ℕ) → 0 < length rest → next d (written rest) ≡ Ok t → after ≡ after_number (written rest)
    → sum_after (length after) t after ≡ sum_after (length rest) d rest
sum_step [] after d t some e a = absurd (omega arith)
sum_step (b ∷ text) after d t some e a =
    let p = progress (b ∷ text) d t e in
    let q : length after < length (b ∷ text) = subst (λ xs. length xs < length (b ∷ text)) (sym a) p in
    fuel (length after) (length text) t after (omega arith) (omega arith)
    ∙ ap (sum_after (length text) t) a
    ∙ sym (opened b text d (Ok t) e)

-- the sum ends with the first error
pub refused : (rest : List ℕ) (d : ℕ) (x : DurationError) → 0 < length rest → next d (written rest) ≡ Err x → sum_after (length rest) d rest ≡ Err x
refused [] d x some e = absurd (omega arith)
refused (b ∷ text) d x some e = opened b text d (Err x) e

pub all_summed : (d : ℕ) (rest : List ℕ) → length rest ≡ 0 → sum_after (length rest) d rest ≡ Ok d
unfolding sum_after
all_summed d [] h = refl
all_summed d (b ∷ text) h = absurd (omega arith)
