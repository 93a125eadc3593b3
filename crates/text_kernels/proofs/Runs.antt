-- The run before the first element that passes p, seen a block at a time through the block's mask.
use Rattle.text_kernels.proofs.Prelude.{◌≡◌, ℕ, ◌+◌, ◌*◌, ◌<◌, ◌≤◌, Bool, true, false, not, cond, List, [], ◌∷◌, ◌++◌, map, length, refl, arith, leading_from_mask_l, trailing_mask_l, prefix_len-append, prefix_len-le-length, eq-eqb, ne_eqb, prefix_len}
use lib.Lanes.{mask_l}
use lib.Count.{count_trailing_zeros}

none_passes : (b : Bool) (n l m : ℕ) → n ≤ l → cond (not b) (1 + n) 0 ≡ 1 + l → (n ≡ l → m ≡ 0) → cond b 1 0 + 2 * m ≡ 0
none_passes true n l m le e rest = let no : ⊥ = omega arith in absurd no
none_passes false n l m le e rest = let z = rest (omega arith) in omega arith

module _ {X : Type 0} (p : X → Bool) where
  abbrev pub run : List X → ℕ
  run xs = prefix_len (λ x. not (p x)) xs

  whole : (xs : List X) → run xs ≡ length xs → mask_l (map p xs) ≡ 0
  whole [] e = refl
  whole (x ∷ xs) e = none_passes (p x) _ (length xs) _ (prefix_len-le-length (λ y. not (p y)) xs) (omega arith) (whole xs)

  pub run_through : (xs rest : List X) → mask_l (map p xs) ≡ 0 → run (xs ++ rest) ≡ length xs + run rest
  run_through xs rest none = grind (arith, prefix_len-append, eq-eqb, leading_from_mask_l)

  pub run_stops : (xs rest : List X) → length xs ≤ 64 → 0 < mask_l (map p xs) → run (xs ++ rest) ≡ count_trailing_zeros 64 (mask_l (map p xs))
  run_stops xs rest short some = grind (arith, prefix_len-append, ne_eqb, whole, trailing_mask_l)
