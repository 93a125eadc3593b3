-- Loop invariants and measures of `zeros_len` (src/held.rt).
use Rattle.std.proofs.Common.{◌≡◌, ◌+◌, ◌-◌, ◌≤◌, ◌==◌, drop, length}
use Rattle.std.specs.List.{prefix_len}
use Rattle.quantities.proofs.held.zeros_len.Given as goal

abbrev pub invariant-loop-n : goal.invariant-loop-n
invariant-loop-n l = record {
  in_range : l.n ≤ length l.digits;
  so_far : l.n + prefix_len (λ b. b == 48) (drop l.n l.digits) ≡ prefix_len (λ b. b == 48) l.digits;
}

abbrev pub decreases-loop-n : goal.decreases-loop-n
decreases-loop-n l = length l.digits - l.n
