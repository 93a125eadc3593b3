-- Products, powers and quotients of numbers that are capped.
use Rattle.std.proofs.Common.{◌≡◌, ℕ, zero, suc, ◌+◌, ◌-◌, ◌*◌, ◌/◌, ◌%◌, ◌^◌, ◌<◌, ◌≤◌, min, ℤ, pos, negsuc, refl, sym, ap, ◌∙◌, arith, lit<, lit≤, inl, inr, unsigned_abs, ◌≤ℤ◌, ◌<ℤ◌}
use Rattle.std.proofs.lemmas.Int.{ints, to_z-of_z}
use Rattle.std.proofs.Math.Nat.{div-eq_of_lt, le-mul_of_pos_right, mod-eq_of_lt, mul-le-mul_left, mul-le-mul_right, one-le-pow, pow-le-pow_right}
use Rattle.std.proofs.lemmas.Bool.{cases_lt}
use Rattle.std.proofs.lemmas.Nat.{div-add-mod'}
use Rattle.std.specs.Int.{div_ceil}
use Rattle.quantities.specs.Quantities.{capped, scaled}
use Rattle.quantities.specs.declared.unit.Unit.{Unit}
use Rattle.quantities.specs.declared.unit.Unit.TheVariants.{Binary, Decimal}

no_factor : (a c m : ℕ) → min (c * min 0 m) m ≡ min (a * 0) m
no_factor a c m = let p : min 0 m ≡ 0 = omega arith in rw p (omega arith)

-- a factor above the cap
large : (a b m : ℕ) → m < a → 1 ≤ b → min (m * min b m) m ≡ min (a * b) m
large a b zero h k = omega arith
large a b (suc m) h k =
    let p : 1 ≤ min b (suc m) = omega arith in
    let x : suc m * 1 ≤ suc m * min b (suc m) = mul-le-mul_left (suc m) p in
    let y : a * 1 ≤ a * b = mul-le-mul_left a k in
    omega (arith, x, y)

large_right : (a b m : ℕ) → a ≤ m → m < b → min (a * m) m ≡ min (a * b) m
large_right zero b m h k = omega arith
large_right (suc a) b m h k =
    let x : 1 * m ≤ suc a * m = mul-le-mul_right m (omega arith) in
    let y : 1 * b ≤ suc a * b = mul-le-mul_right b (omega arith) in
    omega (arith, x, y)

both_small : (a b m : ℕ) → a ≤ m → b ≤ m → min (min a m * min b m) m ≡ min (a * b) m
both_small a b m h k = let p : min a m ≡ a = omega arith in let q : min b m ≡ b = omega arith in rw (p, q) refl

left_small : (a b m : ℕ) → a ≤ m → m < b → min (min a m * min b m) m ≡ min (a * b) m
left_small a b m h k = let p : min a m ≡ a = omega arith in let q : min b m ≡ m = omega arith in rw (p, q) (large_right a b m h k)

left_large : (a b m : ℕ) → m < a → min (min a m * min b m) m ≡ min (a * b) m
left_large a zero m h = no_factor a (min a m) m
left_large a (suc b) m h = let p : min a m ≡ m = omega arith in rw p (large a (suc b) m h (omega arith))

-- a product is the same below the cap whether or not its factors were capped
pub product : (a b m : ℕ) → min (min a m * min b m) m ≡ min (a * b) m
product a b m =
    elim (cases_lt m a) [
      | inl h ↦ left_large a b m h
      | inr h ↦ elim (cases_lt m b) [ inl k ↦ left_small a b m h k | inr k ↦ both_small a b m h k ]
    ]

pub raised : (n b m : ℕ) → n ≤ m → min (n * min b m) m ≡ min (n * b) m
raised n b m h = let p : min n m ≡ n = omega arith in ap (λ x. min (x * min b m) m) (sym p) ∙ product n b m

high_power : (k : ℕ) → 39 ≤ k → 2 ^ 128 - 1 ≤ 10 ^ k
high_power k h = let p : 10 ^ 39 ≤ 10 ^ k = pow-le-pow_right {n = 10} (lit< tt) h in let q : 2 ^ 128 - 1 ≤ 10 ^ 39 = lit≤ tt in omega (arith, p, q)

pub tens : (k : ℕ) → min (10 ^ min k 39) (2 ^ 128 - 1) ≡ min (10 ^ k) (2 ^ 128 - 1)
tens k =
    elim (cases_lt k 39) [
      | inl h ↦ (let p : min k 39 ≡ k = omega arith in rw p refl)
      | inr h ↦ (let p : min k 39 ≡ 39 = omega arith in rw p (let x = high_power k h in let y : 2 ^ 128 - 1 ≤ 10 ^ 39 = lit≤ tt in omega (arith, x, y)))
    ]

pub some_tens : (k : ℕ) → 1 ≤ min (10 ^ k) (2 ^ 128 - 1)
some_tens k = omega (arith, one-le-pow k 10 (lit< tt))

one_or_none : (n d : ℕ) → n < d → div_ceil n d ≡ min 1 n
one_or_none n d h = rw (div-eq_of_lt h, mod-eq_of_lt h) (omega arith)

-- a quotient that is rounded up is the same whether or not its divisor was capped
pub lowered : (n b m : ℕ) → n < m → div_ceil n (min b m) ≡ div_ceil n b
lowered n b m h =
    elim (cases_lt m b) [
      | inl k ↦ (let p : min b m ≡ m = omega arith in rw p (one_or_none n m h ∙ sym (one_or_none n b (omega arith))))
      | inr k ↦ (let p : min b m ≡ b = omega arith in rw p refl)
    ]

pub cap : (unit : Unit) (n m : ℕ) → 9223372036854775807000000000 ≤ m → capped unit (min n m) ≡ min (capped unit n) m
cap (Decimal e) n m h = refl
cap (Binary bits) n m h = omega arith

pub scaled_up : (n : ℕ) (z : ℤ) → pos 0 ≤ℤ z → scaled n z ≡ n * 10 ^ unsigned_abs z
unfolding scaled
scaled_up n (pos k) h = refl
scaled_up n (negsuc k) h = absurd (omega (arith, ints))

pub scaled_down : (n : ℕ) (z : ℤ) → z <ℤ pos 0 → scaled n z ≡ div_ceil n (10 ^ unsigned_abs z)
unfolding scaled
scaled_down n (pos k) h = absurd (omega (arith, ints))
scaled_down n (negsuc k) h = refl

-- a quotient that is rounded up is not larger than the number
pub small_quotient : (n d : ℕ) → 1 ≤ d → div_ceil n d ≤ n
small_quotient n d h =
    let x : n / d ≤ n / d * d = le-mul_of_pos_right (n / d) h in
    let y : n / d * d + n % d ≡ n = div-add-mod' n d in
    omega (arith, x, y)

quotient_fits : (n k m : ℕ) → n < m → div_ceil n (10 ^ k) ≡ min (div_ceil n (10 ^ k)) m
quotient_fits n k m h = omega (arith, small_quotient n (10 ^ k) (one-le-pow k 10 (lit< tt)))

pub scaled_down_kept : (n : ℕ) (z : ℤ) (m : ℕ) → z <ℤ pos 0 → n < m → min (scaled n z) m ≡ div_ceil n (10 ^ unsigned_abs z)
scaled_down_kept n z m h k = ap (λ x. min x m) (scaled_down n z h) ∙ sym (quotient_fits n (unsigned_abs z) m k)

pub ruleset scaling = (scaled_up, scaled_down_kept, to_z-of_z)
