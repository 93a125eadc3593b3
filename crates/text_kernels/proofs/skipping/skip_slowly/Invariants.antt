-- Loop invariants and measures of `skip_slowly` (src/skipping.rt).
use Rattle.text_kernels.proofs.Prelude.{◌≡◌, ◌+◌, ◌-◌, ◌≤◌, drop, length, skip_plain_of}
use Rattle.text_kernels.proofs.skipping.skip_slowly.Given as goal

abbrev pub invariant-loop-at : goal.invariant-loop-at
invariant-loop-at l = record {
  skipped : l.at + skip_plain_of (drop l.at l.bytes) ≡ skip_plain_of l.bytes;
  within : l.at ≤ length l.bytes;
}

abbrev pub decreases-loop-at : goal.decreases-loop-at
decreases-loop-at l = length l.bytes - l.at
