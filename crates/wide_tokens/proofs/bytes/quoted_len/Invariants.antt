-- Loop invariants and measures of `quoted_len` (src/bytes.rt).
use Rattle.wide_tokens.proofs.Prelude.{◌≡◌, ◌+◌, ◌-◌, ◌≤◌, length, drop, run, is_quoted_byte}
use Rattle.wide_tokens.proofs.bytes.quoted_len.Given as goal

abbrev pub invariant-loop-n : goal.invariant-loop-n
invariant-loop-n l = record { in_range : l.n ≤ length l.bytes; so_far : l.n + run is_quoted_byte (drop l.n l.bytes) ≡ run is_quoted_byte l.bytes }

abbrev pub decreases-loop-n : goal.decreases-loop-n
decreases-loop-n l = length l.bytes - l.n
