-- Loop invariants and measures of `first_len` (src/order.rt).
use Rattle.std.proofs.Common.{◌≡◌, ◌+◌, ◌-◌, ◌≤◌, drop, length}
use Rattle.versions.specs.Identifiers.{first_len}
use Rattle.versions.proofs.order.first_len.Given as goal

abbrev pub invariant-loop-n : goal.invariant-loop-n
invariant-loop-n l = record { in_range : l.n ≤ length l.text; so_far : l.n + first_len (drop l.n l.text) ≡ first_len l.text }

abbrev pub decreases-loop-n : goal.decreases-loop-n
decreases-loop-n l = length l.text - l.n
