-- Loop invariants and measures of `between` (src/bytes.rt).
use Rattle.wide_tokens.proofs.Prelude.{◌≡◌, ◌+◌, ◌-◌, ◌≤◌, length, drop, false, between}
use Rattle.wide_tokens.proofs.bytes.between.Given as goal

abbrev pub invariant-loop-n : goal.invariant-loop-n
invariant-loop-n l = record { in_range : l.n ≤ length l.bytes; so_far : l.n + between l.in_comment (drop l.n l.bytes) ≡ between false l.bytes }

abbrev pub decreases-loop-n : goal.decreases-loop-n
decreases-loop-n l = length l.bytes - l.n
