-- Loop invariants and measures of `digits_len` (src/bytes.rt).
use Rattle.wide_tokens.proofs.Prelude.{◌≡◌, ◌+◌, ◌-◌, ◌≤◌, length, drop, run, is_digit_of}
use Rattle.wide_tokens.proofs.bytes.digits_len.Given as goal

abbrev pub invariant-loop-n : goal.invariant-loop-n
invariant-loop-n l = record { in_range : l.n ≤ length l.bytes; so_far : l.n + run (is_digit_of l.base) (drop l.n l.bytes) ≡ run (is_digit_of l.base) l.bytes }

abbrev pub decreases-loop-n : goal.decreases-loop-n
decreases-loop-n l = length l.bytes - l.n
