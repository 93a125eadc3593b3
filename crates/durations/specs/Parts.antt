-- The whole units of a duration (cel-go, common/types/duration.go; Go, Duration.Hours, Minutes, Seconds, Milliseconds).
use Rattle.std.specs.Prelude.{ℤ, pos, int_div, int_rem, ◌<ℤ◌}
use Rattle.std.specs.Float.{Float, binary64, float_to_signed}
use Rattle.std.specs.Int.{w64}
use lib.Ieee.{add, div, of_int}

-- a size of a unit in nanoseconds
abbrev pub IsUnit : ℤ → Type 0
IsUnit unit = pos 0 <ℤ unit

-- a quotient as Go computes it: the whole units, and what is left of one, as doubles
abbrev pub in_units : ℤ → ℤ → Float
in_units unit d = add binary64 (of_int binary64 (int_div d unit)) (div binary64 (of_int binary64 (int_rem d unit)) (of_int binary64 unit))

-- that number, cut toward 0
abbrev pub whole : ℤ → ℤ → ℤ
whole unit d = float_to_signed w64 (in_units unit d)

-- `getHours()`, `getMinutes()` and `getSeconds()`
abbrev pub hours : ℤ → ℤ
hours d = whole (pos 3600000000000) d

abbrev pub minutes : ℤ → ℤ
minutes d = whole (pos 60000000000) d

abbrev pub seconds : ℤ → ℤ
seconds d = whole (pos 1000000000) d

-- `getMilliseconds()` has no doubles
abbrev pub milliseconds : ℤ → ℤ
milliseconds d = int_div d (pos 1000000)
