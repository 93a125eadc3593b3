-- Sums of durations (cel-go, common/types/overflow.go): exact, within 64 bits.
use Rattle.std.specs.Prelude.{◌^◌, ℤ, pos, negsuc, Bool, nat_lt, Option, Some, None, if◌then◌else◌}

-- whether a number fits 64 bits with its sign
abbrev pub fits64 : ℤ → Bool
fits64 (pos n) = nat_lt n (2 ^ 63)
fits64 (negsuc n) = nat_lt n (2 ^ 63)

-- the number, if it fits
abbrev pub fitting : ℤ → Option ℤ
fitting z = if fits64 z then Some z else None
