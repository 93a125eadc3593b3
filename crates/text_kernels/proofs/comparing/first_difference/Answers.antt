-- Proof obligations of `first_difference` (src/comparing.rt).
use Rattle.text_kernels.proofs.Prelude.{length, take, drop, ◌-◌, ◌==◌, sym, ap, ◌∙◌, arith, length-take, common_prefix_len-le}
use lib.Count.{count_trailing_zeros}
use Rattle.text_kernels.proofs.Pairs.{same_through, differ_within}
use Rattle.text_kernels.proofs.comparing.first_difference.Goals as goal

pub returns-then-found-ne0 : goal.returns-then-found-ne0
returns-then-found-ne0 c =
    let found = c.differing-found.ensures in
    let at = c.loop-at.at in
    let run = differ_within c.args.left.now c.args.right.now at 32 (omega arith) (omega arith) (omega arith) (omega (arith, found)) ∙ ap (count_trailing_zeros 64) (sym found) in
    omega (arith, run, c.loop-at.invariant.alike)

pub loop-at-preserved : goal.loop-at-preserved
loop-at-preserved c =
    let at = c.loop-at.at in
    let run = same_through c.args.left.now c.args.right.now at 32 (omega arith) (omega arith) (omega (arith, c.differing-found.ensures)) in
    record { alike = omega (arith, run, c.loop-at.invariant.alike); within_left = omega arith; within_right = omega arith }

pub overflow_add-result-2 : goal.overflow_add-result-2
overflow_add-result-2 c =
    let at = c.loop-at.at in
    let left = c.args.left.now in
    let right = c.args.right.now in
    let rest_left = take (length left - at) (drop at left) in
    let rest_right = take (length right - at) (drop at right) in
    record { fits = omega (arith, c.differ_slowly.ensures, common_prefix_len-le (λ x y. x == y) rest_left rest_right, length-take (length left - at) (drop at left)) }
