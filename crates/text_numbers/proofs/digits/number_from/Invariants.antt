-- Loop invariants and measures of `number_from` (src/digits.rt).
use Rattle.std.proofs.Common.{◌≡◌, ◌-◌, ◌^◌, ◌≤◌, length, drop, min}
use Rattle.text_numbers.specs.Numbers.{number_after}
use Rattle.text_numbers.proofs.digits.number_from.Given as goal

abbrev pub invariant-loop-n : goal.invariant-loop-n
invariant-loop-n l = record {
  in_range : l.n ≤ length l.digits;
  so_far : min (number_after l.value (drop l.n l.digits)) (2 ^ 128 - 1) ≡ min (number_after l.before l.digits) (2 ^ 128 - 1);
  small : l.value ≤ 2 ^ 128 - 1;
}

abbrev pub decreases-loop-n : goal.decreases-loop-n
decreases-loop-n l = length l.digits - l.n
