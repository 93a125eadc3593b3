-- Sums and differences with timestamps (cel-go, common/types/overflow.go), in nanoseconds.
use Rattle.std.specs.Prelude.{◌^◌, ℤ, pos, negsuc, ◌-ℤ◌, ◌*ℤ◌, Bool, nat_lt, Option, option_and_then}
use Rattle.std.specs.Int.{int_div_euclid}
use Rattle.timestamps.specs.Timestamps.{when}

-- whether a number fits 64 bits with its sign
abbrev pub fits64 : ℤ → Bool
fits64 (pos n) = nat_lt n (2 ^ 63)
fits64 (negsuc n) = nat_lt n (2 ^ 63)

-- the second in which a timestamp is
abbrev pub second_of : ℤ → ℤ
second_of z = int_div_euclid z (pos 1000000000)

-- the seconds between two timestamps, as nanoseconds
abbrev pub seconds_between : ℤ → ℤ → ℤ
seconds_between a b = (second_of a -ℤ second_of b) *ℤ pos 1000000000

-- the number, if it fits
unfoldable pub narrow : ℤ → Option ℤ
narrow z = when (fits64 z) z

-- the second number, if both fit
unfoldable pub second_if_both : ℤ → ℤ → Option ℤ
second_if_both a b = option_and_then (λ first. narrow b) (narrow a)

-- `a - b`: the difference, and that of the seconds, have to fit
abbrev pub between : ℤ → ℤ → Option ℤ
between a b = second_if_both (seconds_between a b) (a -ℤ b)
