-- Proof obligations of `differing` (src/comparing.rt).
use Rattle.text_kernels.proofs.Prelude.{ap, ◌%◌, ◌^◌, ◌∙◌, sym, arith, w8, tops_compared, mask_l-mod, length-zip2}
use lib.Lanes.{mask_l, zip2}
use Rattle.text_kernels.proofs.Pairs.{differ}
use Rattle.text_kernels.proofs.comparing.differing.Goals as goal

pub returns : goal.returns
returns c =
    let left = c.args.left in
    let right = c.args.right in
    let long = length-zip2 differ left right (c.fits-left.0 ∙ sym c.fits-right.0) ∙ c.fits-left.0 in
    ap (λ l. mask_l l % 2 ^ 64) (tops_compared w8 differ left right) ∙ mask_l-mod (zip2 differ left right) 64 (omega (arith, long))
