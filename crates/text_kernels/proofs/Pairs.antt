-- The common prefix of two lists, as a run before the first position at which they differ.
use Rattle.text_kernels.proofs.Prelude.{◌≡◌, ℕ, ◌+◌, ◌<◌, ◌≤◌, Bool, true, false, not, cond, ◌==◌, List, [], ◌∷◌, ◌++◌, map, length, drop, refl, sym, ap, ap₂, ◌∙◌, arith, chunk-drop, length-chunk, length-zip2, first_difference_of}
use lib.Lanes.{chunk, mask_l, zip2}
use lib.Count.{count_trailing_zeros}
use Rattle.text_kernels.proofs.Runs.{run, run_through, run_stops}

abbrev pub differ : ℕ → ℕ → Bool
differ x y = not (x == y)

itself : (bs : List Bool) → map (λ b. b) bs ≡ bs
itself [] = refl
itself (b ∷ bs) = ap (λ r. b ∷ r) (itself bs)

twice : (b : Bool) → b ≡ not (not b)
twice true = refl
twice false = refl

abbrev run_of : List Bool → ℕ
run_of bs = run (λ b. b) bs

as_run : (xs ys : List ℕ) → first_difference_of xs ys ≡ run_of (zip2 differ xs ys)
as_run (x ∷ xs) (y ∷ ys) = ap₂ (λ b n. cond b (1 + n) 0) (twice (x == y)) (as_run xs ys)
as_run _ _ = refl

zip2-append : (xs ys us vs : List ℕ) → length xs ≡ length ys → zip2 differ (xs ++ us) (ys ++ vs) ≡ zip2 differ xs ys ++ zip2 differ us vs
zip2-append [] [] us vs e = refl
zip2-append (x ∷ xs) (y ∷ ys) us vs e = ap (λ r. differ x y ∷ r) (zip2-append xs ys us vs (omega arith))
zip2-append _ _ us vs e = let no : ⊥ = omega arith in absurd no

module _ (left right : List ℕ) (i n : ℕ) (room_left : i + n ≤ length left) (room_right : i + n ≤ length right) where
  abbrev block : List Bool
  block = zip2 differ (chunk i n left) (chunk i n right)

  alike_long : length (chunk i n left) ≡ length (chunk i n right)
  alike_long = length-chunk i n left room_left ∙ sym (length-chunk i n right room_right)

  long : length block ≡ n
  long = length-zip2 differ (chunk i n left) (chunk i n right) alike_long ∙ length-chunk i n left room_left

  split : first_difference_of (drop i left) (drop i right) ≡ run_of (block ++ zip2 differ (drop (i + n) left) (drop (i + n) right))
  split =
      ap₂ first_difference_of (chunk-drop i n left) (chunk-drop i n right)
      ∙ as_run (chunk i n left ++ drop (i + n) left) (chunk i n right ++ drop (i + n) right)
      ∙ ap run_of (zip2-append (chunk i n left) (chunk i n right) (drop (i + n) left) (drop (i + n) right) alike_long)

  pub same_through : mask_l block ≡ 0 → first_difference_of (drop i left) (drop i right) ≡ n + first_difference_of (drop (i + n) left) (drop (i + n) right)
  same_through none = grind (arith, split, run_through, itself, long, as_run)

  pub differ_within : n ≤ 64 → 0 < mask_l block → first_difference_of (drop i left) (drop i right) ≡ count_trailing_zeros 64 (mask_l block)
  differ_within short some = grind (arith, split, run_stops, long, itself)
