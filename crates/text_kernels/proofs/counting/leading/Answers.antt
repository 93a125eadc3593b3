-- Proof obligations of `leading` (src/counting.rt).
use Rattle.text_kernels.proofs.Prelude.{refl, arith, zip2_splat, splat_is_map, zip2_of_maps, is_leading}
use Rattle.text_kernels.proofs.Masks.{masked}
use Rattle.text_kernels.proofs.counting.leading.Goals as goal

pub returns : goal.returns
returns c =
    let v = c.args.lanes in
    let long = c.fits-lanes.0 in
    masked _ is_leading refl v _ (omega arith) c.fits-lanes.1 (zip2_of_maps _ _ _ v (zip2_splat _ v 32 _ long) (splat_is_map v 32 _ long))
