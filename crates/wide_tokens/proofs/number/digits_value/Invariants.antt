-- Loop invariants and measures of `digits_value` (src/number.rt).
use Rattle.wide_tokens.proofs.Prelude.{◌≡◌, ◌-◌, ◌^◌, ◌≤◌, length, drop, min, number, number_from}
use Rattle.wide_tokens.proofs.number.digits_value.Given as goal

abbrev pub invariant-loop-n : goal.invariant-loop-n
invariant-loop-n l = record { in_range : l.n ≤ length l.digits; so_far : min (number_from l.base l.value (drop l.n l.digits)) (2 ^ 128 - 1) ≡ min (number l.base l.digits) (2 ^ 128 - 1); small : l.value ≤ 2 ^ 128 - 1 }

abbrev pub decreases-loop-n : goal.decreases-loop-n
decreases-loop-n l = length l.digits - l.n
