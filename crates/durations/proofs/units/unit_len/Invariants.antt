-- Loop invariants and measures of `unit_len` (src/units.rt).
use Rattle.std.proofs.Common.{◌≡◌, ◌+◌, ◌-◌, ◌≤◌, drop, length}
use Rattle.durations.specs.Durations.{unit_len}
use Rattle.durations.proofs.units.unit_len.Given as goal

abbrev pub invariant-loop-n : goal.invariant-loop-n
invariant-loop-n l = record { in_range : l.n ≤ length l.text; so_far : l.n + unit_len (drop l.n l.text) ≡ unit_len l.text }

abbrev pub decreases-loop-n : goal.decreases-loop-n
decreases-loop-n l = length l.text - l.n
