-- A size is 0 exactly if its mantissa is.
use Rattle.std.proofs.Common.{◌≡◌, ◌∙◌, ap, sym, Bool, true, false, ℕ, zero, suc, ◌+◌, ◌-◌, ◌*◌, ◌/◌, ◌%◌, ◌^◌, ◌≤◌, min, ℤ, pos, ◌+ℤ◌, negsuc, arith, refl, lit<}
use Rattle.std.proofs.Math.Nat.{mul-le-mul_left, one-le-pow, zero-div, zero-mod}
use Rattle.std.proofs.lemmas.Nat.{div-add-mod'}
use Rattle.std.proofs.lemmas.Bool.Decides.{nat_tests}
use Rattle.quantities.specs.Quantities.{Spelled, capped, mantissa, scale, scaled, sign_in, sign_of, size, with_sign}
use Rattle.quantities.specs.declared.unit.Unit.{Unit}
use Rattle.quantities.specs.declared.unit.Unit.TheVariants.{Binary, Decimal}

some_part : (q r d n : ℕ) → q * d + r ≡ n → 1 ≤ n → 1 ≤ q + min 1 r
some_part zero r d n e h = omega arith
some_part (suc q) r d n e h = omega arith

pub some : (n : ℕ) (z : ℤ) → 1 ≤ n → 1 ≤ scaled n z
unfolding scaled
some n (pos k) h = let x : n * 1 ≤ n * 10 ^ k = mul-le-mul_left n (one-le-pow k 10 (lit< tt)) in omega (arith, x)
some n (negsuc k) h = some_part (n / 10 ^ suc k) (n % 10 ^ suc k) (10 ^ suc k) n (div-add-mod' n (10 ^ suc k)) h

pub none : (z : ℤ) → scaled 0 z ≡ 0
unfolding scaled
none (pos k) = omega arith
none (negsuc k) = rw (zero-div (10 ^ suc k), zero-mod (10 ^ suc k)) refl

pub some_size : (unit : Unit) (n : ℕ) (z : ℤ) → 1 ≤ n → 1 ≤ capped unit (scaled n z)
some_size (Decimal e) n z h = some n z h
some_size (Binary bits) n z h = omega (arith, some n z h)

pub no_size : (unit : Unit) (z : ℤ) → capped unit (scaled 0 z) ≡ 0
no_size (Decimal e) z = none z
no_size (Binary bits) z = rw (none z) refl

zero_sign : (minus : Bool) (n : ℕ) → n ≡ 0 → pos 0 ≡ sign_of (with_sign minus n)
zero_sign true n e = rw e refl
zero_sign false n e = rw e refl

minus_sign : (n : ℕ) → 1 ≤ n → negsuc 0 ≡ sign_of (with_sign true n)
minus_sign zero h = absurd (omega arith)
minus_sign (suc n) h = refl

plus_sign : (n : ℕ) → 1 ≤ n → pos 1 ≡ sign_of (with_sign false n)
plus_sign n h = grind (arith, nat_tests)

pub sign_zero : (s : Spelled) (m : ℕ) → m ≡ min (mantissa s) (2 ^ 128 - 1) → m ≡ 0 → pos 0 ≡ sign_in s
sign_zero s m e z =
    let k : mantissa s ≡ 0 = omega arith in
    zero_sign s.minus (size s) (ap (λ n. capped s.unit (scaled n (pos 9 +ℤ scale s))) k ∙ no_size s.unit (pos 9 +ℤ scale s))

some_mantissa : (s : Spelled) (m : ℕ) → m ≡ min (mantissa s) (2 ^ 128 - 1) → 1 ≤ m → 1 ≤ size s
some_mantissa s m e h = some_size s.unit (mantissa s) (pos 9 +ℤ scale s) (omega arith)

pub sign_minus : (s : Spelled) (m : ℕ) → m ≡ min (mantissa s) (2 ^ 128 - 1) → 1 ≤ m → s.minus ≡ true → negsuc 0 ≡ sign_in s
sign_minus s m e h t = minus_sign (size s) (some_mantissa s m e h) ∙ ap (λ b. sign_of (with_sign b (size s))) (sym t)

pub sign_plus : (s : Spelled) (m : ℕ) → m ≡ min (mantissa s) (2 ^ 128 - 1) → 1 ≤ m → s.minus ≡ false → pos 1 ≡ sign_in s
sign_plus s m e h t = plus_sign (size s) (some_mantissa s m e h) ∙ ap (λ b. sign_of (with_sign b (size s))) (sym t)
