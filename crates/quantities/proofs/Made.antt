-- The quantity of a mantissa and a size that were capped.
use Rattle.std.proofs.Common.{◌≡◌, ◌∙◌, ℕ, ◌-◌, ◌^◌, ◌<◌, ◌≤◌, ◌&&◌, min, ℤ, pos, ◌+ℤ◌, Bool, true, false, Result, Err, refl, sym, ap, ap₂, arith, inl, inr, nat_lt}
use Rattle.std.proofs.lemmas.Bool.{cases_lt}
use Rattle.std.proofs.lemmas.Bool.Decides.{nat_tests}
use Rattle.quantities.specs.Quantities.{Spelled, capped, made, mantissa, quantity_in, scale, scaled, size}
use Rattle.quantities.specs.declared.amount.Quantity.{Quantity}
use Rattle.quantities.specs.declared.quantity_error.QuantityError.{QuantityError}
use Rattle.quantities.specs.declared.quantity_error.QuantityError.TheVariants.{TooLarge}

no_fit : (n : ℕ) → 2 ^ 128 - 1 ≤ n → nat_lt n (2 ^ 127) ≡ false
no_fit n h = grind (arith, nat_tests)

and_none : (b : Bool) → (b && false) ≡ false
and_none true = refl
and_none false = refl

large_mantissa : (minus : Bool) (m n : ℕ) → 2 ^ 128 - 1 ≤ m → made minus m n ≡ Err TooLarge
unfolding made
large_mantissa minus m n h = rw (no_fit m h) refl

large_size : (minus : Bool) (m n : ℕ) → 2 ^ 128 - 1 ≤ n → made minus m n ≡ Err TooLarge
unfolding made
large_size minus m n h = rw (no_fit n h) (rw (and_none (nat_lt m (2 ^ 127))) refl)

kept_size : (minus : Bool) (m n : ℕ) → made minus m (min n (2 ^ 128 - 1)) ≡ made minus m n
kept_size minus m n =
    elim (cases_lt n (2 ^ 128 - 1)) [
      | inl h ↦ (let p : min n (2 ^ 128 - 1) ≡ n = omega arith in rw p refl)
      | inr h ↦ (large_size minus m (min n (2 ^ 128 - 1)) (omega arith) ∙ sym (large_size minus m n h))
    ]

small : (s : Spelled) (m r : ℕ) (p : ℤ) → m ≡ mantissa s → r ≡ min (capped s.unit (scaled m p)) (2 ^ 128 - 1) → p ≡ pos 9 +ℤ scale s → made s.minus m r ≡ quantity_in s
small s m r p e f g =
    let a : capped s.unit (scaled m p) ≡ size s = ap₂ (λ x z. capped s.unit (scaled x z)) e g in
    let b : r ≡ min (size s) (2 ^ 128 - 1) = f ∙ ap (λ x. min x (2 ^ 128 - 1)) a in
    ap₂ (made s.minus) e b ∙ kept_size s.minus (mantissa s) (size s)

pub made_is : (s : Spelled) (m r : ℕ) (p : ℤ) (o : Result Quantity QuantityError) → m ≡ min (mantissa s) (2 ^ 128 - 1)
    → (m < 2 ^ 128 - 1 → r ≡ min (capped s.unit (scaled m p)) (2 ^ 128 - 1)) → o ≡ made s.minus m r → p ≡ pos 9 +ℤ scale s → o ≡ quantity_in s
made_is s m r p o e f h g =
    elim (cases_lt m (2 ^ 128 - 1)) [
      | inl k ↦ (h ∙ small s m r p (omega arith) (f k) g)
      | inr k ↦ (h ∙ large_mantissa s.minus m r k ∙ sym (large_mantissa s.minus (mantissa s) (size s) (omega arith)))
    ]
