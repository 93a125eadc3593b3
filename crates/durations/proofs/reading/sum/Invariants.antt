-- Loop invariants and measures of `sum` (src/reading.rt).
use Rattle.std.proofs.Common.{◌≡◌, ◌^◌, ◌≤◌, length}
use Rattle.durations.specs.Durations.{sum_after}
use Rattle.durations.proofs.reading.sum.Given as goal

abbrev pub invariant-numbers : goal.invariant-numbers
invariant-numbers l = record {
  small : l.sum ≤ 2 ^ 63;
  is : sum_after (length l.rest) l.sum l.rest ≡ sum_after (length l.text) 0 l.text;
}

abbrev pub decreases-numbers : goal.decreases-numbers
decreases-numbers l = length l.rest
