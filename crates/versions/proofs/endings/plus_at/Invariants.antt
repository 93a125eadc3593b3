-- Loop invariants and measures of `plus_at` (src/endings.rt).
use Rattle.std.proofs.Common.{◌≡◌, ◌+◌, ◌-◌, ◌≤◌, drop, length}
use Rattle.versions.specs.Identifiers.{plus_at}
use Rattle.versions.proofs.endings.plus_at.Given as goal

abbrev pub invariant-loop-n : goal.invariant-loop-n
invariant-loop-n l = record { in_range : l.n ≤ length l.text; so_far : l.n + plus_at (drop l.n l.text) ≡ plus_at l.text }

abbrev pub decreases-loop-n : goal.decreases-loop-n
decreases-loop-n l = length l.text - l.n
