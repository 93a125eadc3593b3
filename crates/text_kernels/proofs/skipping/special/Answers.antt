-- Proof obligations of `special` (src/skipping.rt).
use Rattle.text_kernels.proofs.Prelude.{◌≡◌, ℕ, List, map, length, replicate, refl, arith, cond, eqb, bit_or, zip2_splat, zip2_of_maps, is_special}
use lib.Lanes.{zip2}
use Rattle.text_kernels.proofs.Masks.{masked}
use Rattle.text_kernels.proofs.skipping.special.Goals as goal

abbrev hit : ℕ → ℕ → ℕ
hit a b = cond (eqb a b) 255 0

equal : (v : List ℕ) (y : ℕ) → length v ≡ 32 → zip2 hit v (replicate 32 y) ≡ map (λ x. hit x y) v
equal v y long = zip2_splat hit v 32 y long

either : (v : List ℕ) (f g : ℕ → ℕ) {xs ys : List ℕ} → xs ≡ map f v → ys ≡ map g v → zip2 bit_or xs ys ≡ map (λ x. bit_or (f x) (g x)) v
either v f g p q = zip2_of_maps bit_or f g v p q

-- the special bytes are those in the code; only `masked` compares them with the definition
pub returns : goal.returns
returns c =
    let v = c.args.lanes in
    let long = c.fits-lanes.0 in
    masked _ is_special refl v _ (omega arith) c.fits-lanes.1
    (either v _ _ (either v _ _ (either v _ _ (either v _ _ (equal v _ long) (equal v _ long)) (equal v _ long)) (equal v _ long)) (equal v _ long))
