-- Loop invariants and measures of `code_points` (src/counting.rt).
use Rattle.text_kernels.proofs.Prelude.{◌≡◌, ◌+◌, ◌-◌, ◌≤◌, drop, length, code_points_of}
use Rattle.text_kernels.proofs.counting.code_points.Given as goal

abbrev pub invariant-loop-at : goal.invariant-loop-at
invariant-loop-at l = record {
  counted : l.count + code_points_of (drop l.at l.bytes) ≡ code_points_of l.bytes;
  within : l.at ≤ length l.bytes;
}

abbrev pub decreases-loop-at : goal.decreases-loop-at
decreases-loop-at l = length l.bytes - l.at
