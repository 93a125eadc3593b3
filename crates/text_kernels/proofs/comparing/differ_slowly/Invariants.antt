-- Loop invariants and measures of `differ_slowly` (src/comparing.rt).
use Rattle.text_kernels.proofs.Prelude.{◌≡◌, ◌+◌, ◌-◌, ◌≤◌, drop, length, first_difference_of}
use Rattle.text_kernels.proofs.comparing.differ_slowly.Given as goal

abbrev pub invariant-loop-at : goal.invariant-loop-at
invariant-loop-at l = record {
  alike : l.at + first_difference_of (drop l.at l.left) (drop l.at l.right) ≡ first_difference_of l.left l.right;
  within_left : l.at ≤ length l.left;
  within_right : l.at ≤ length l.right;
}

abbrev pub decreases-loop-at : goal.decreases-loop-at
decreases-loop-at l = length l.left - l.at
