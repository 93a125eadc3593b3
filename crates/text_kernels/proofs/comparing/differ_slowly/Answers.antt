-- Proof obligations of `differ_slowly` (src/comparing.rt).
use Rattle.text_kernels.proofs.Prelude.{drop, ◌==◌, arith, length-drop, common_prefix_len-le}
use Rattle.text_kernels.proofs.comparing.differ_slowly.Goals as goal

pub returns-else-at-right : goal.returns-else-at-right
returns-else-at-right c =
    let at = c.loop-at.at in
    let left = drop at c.args.left.now in
    let right = drop at c.args.right.now in
    omega (arith, common_prefix_len-le (λ x y. x == y) left right, length-drop at c.args.right.now, c.loop-at.invariant.alike)
