-- A mask that is computed lane by lane agrees with a test at each of the 256 bytes.
use Rattle.text_kernels.proofs.Prelude.{◌≡◌, ℕ, ◌%◌, ◌^◌, ◌≤◌, Bool, true, List, [], ◌∷◌, map, length, refl, ap, ap₂, ◌∙◌, arith, w8, Fits, mask_l-mod, length-map, agree_below, agree_below_at}
use lib.Lanes.{mask_l, top, Each1}

module _ (lane : ℕ → ℕ) (test : ℕ → Bool) (all : agree_below (λ x. top 7 (lane x)) test 256 ≡ true) where
  each_byte : (bytes : List ℕ) → Each1 (Fits w8) bytes → map (top 7) (map lane bytes) ≡ map test bytes
  each_byte [] fits = refl
  each_byte (x ∷ xs) fits = ap₂ (λ a b. a ∷ b) (agree_below_at (λ y. top 7 (lane y)) test 256 x all fits.0.fits) (each_byte xs fits.1)

  pub masked : (bytes lanes : List ℕ) → length bytes ≤ 64 → Each1 (Fits w8) bytes → lanes ≡ map lane bytes → mask_l (map (top 7) lanes) % 2 ^ 64 ≡ mask_l (map test bytes)
  masked bytes lanes short fits e =
      ap (λ l. mask_l l % 2 ^ 64) (ap (map (top 7)) e ∙ each_byte bytes fits) ∙ mask_l-mod (map test bytes) 64 (omega (arith, length-map bytes test))
