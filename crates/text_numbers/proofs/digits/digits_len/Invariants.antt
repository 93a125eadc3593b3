-- Loop invariants and measures of `digits_len` (src/digits.rt).
use Rattle.std.proofs.Common.{◌≡◌, ◌+◌, ◌-◌, ◌≤◌, drop, length}
use Rattle.text_numbers.specs.Numbers.{digits_len}
use Rattle.text_numbers.proofs.digits.digits_len.Given as goal

abbrev pub invariant-loop-n : goal.invariant-loop-n
invariant-loop-n l = record { in_range : l.n ≤ length l.text; so_far : l.n + digits_len (drop l.n l.text) ≡ digits_len l.text }

abbrev pub decreases-loop-n : goal.decreases-loop-n
decreases-loop-n l = length l.text - l.n
