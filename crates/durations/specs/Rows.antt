-- Durations with the values that the definitions give: those of time.ParseDuration, most from Go's own tests.
use Rattle.std.specs.Prelude.{◌≡◌, ◌+ℤ◌, ◌-ℤ◌, neg_ℤ, pos, negsuc, [], ◌∷◌, ◌++◌, Ok, Err, Some, None, codes}
use Rattle.durations.specs.Arithmetic.{fitting}
use Rattle.durations.specs.Durations.{duration_of}
use Rattle.durations.specs.Parts.{hours, milliseconds, minutes, seconds}
use Rattle.durations.specs.declared.duration_error.DurationError.TheVariants.{Invalid, TooFine}

-- durations in nanoseconds
pub record DurationRowsHold : Type 0 where
  pub zero : duration_of (codes "0") ≡ Ok (pos 0)
  pub minus_zero : duration_of (codes "-0") ≡ Ok (pos 0)
  pub plus_zero : duration_of (codes "+0") ≡ Ok (pos 0)
  pub seconds : duration_of (codes "30s") ≡ Ok (pos 30000000000)
  pub minus : duration_of (codes "-5s") ≡ Ok (negsuc 4999999999)
  pub plus : duration_of (codes "+5s") ≡ Ok (pos 5000000000)
  pub fraction : duration_of (codes "5.6s") ≡ Ok (pos 5600000000)
  pub no_digit_after : duration_of (codes "5.s") ≡ Ok (pos 5000000000)
  pub no_digit_before : duration_of (codes ".5s") ≡ Ok (pos 500000000)
  pub zeros : duration_of (codes "1.0040s") ≡ Ok (pos 1004000000)
  pub hundred : duration_of (codes "100.00100s") ≡ Ok (pos 100001000000)
  pub nanoseconds : duration_of (codes "10ns") ≡ Ok (pos 10)
  pub microseconds : duration_of (codes "11us") ≡ Ok (pos 11000)
  pub micro_sign : duration_of (codes "12" ++ (0xc2 ∷ 0xb5 ∷ codes "s")) ≡ Ok (pos 12000)
  pub greek_letter : duration_of (codes "12" ++ (0xce ∷ 0xbc ∷ codes "s")) ≡ Ok (pos 12000)
  pub milliseconds : duration_of (codes "13ms") ≡ Ok (pos 13000000)
  pub minutes : duration_of (codes "15m") ≡ Ok (pos 900000000000)
  pub hours : duration_of (codes "16h") ≡ Ok (pos 57600000000000)
  pub hours_minutes : duration_of (codes "3h30m") ≡ Ok (pos 12600000000000)
  pub seconds_minutes : duration_of (codes "10.5s4m") ≡ Ok (pos 250500000000)
  pub minus_both : duration_of (codes "-2m3.4s") ≡ Ok (negsuc 123399999999)
  pub all_units : duration_of (codes "1h2m3s4ms5us6ns") ≡ Ok (pos 3723004005006)
  pub long : duration_of (codes "39h9m14.425s") ≡ Ok (pos 140954425000000)
  pub not_a_float : duration_of (codes "9007199254740993ns") ≡ Ok (pos 9007199254740993)
  pub greatest : duration_of (codes "9223372036854775807ns") ≡ Ok (pos 9223372036854775807)
  pub greatest_us : duration_of (codes "9223372036854775.807us") ≡ Ok (pos 9223372036854775807)
  pub greatest_parts : duration_of (codes "9223372036s854ms775us807ns") ≡ Ok (pos 9223372036854775807)
  pub least : duration_of (codes "-9223372036854775808ns") ≡ Ok (negsuc 9223372036854775807)
  pub least_us : duration_of (codes "-9223372036854775.808us") ≡ Ok (negsuc 9223372036854775807)
  pub least_parts : duration_of (codes "-9223372036s854ms775us808ns") ≡ Ok (negsuc 9223372036854775807)
  pub least_hours : duration_of (codes "-2562047h47m16.854775808s") ≡ Ok (negsuc 9223372036854775807)
  pub hour_and_half : duration_of (codes "1.5h") ≡ Ok (pos 5400000000000)
  pub cut : duration_of (codes "0.33333333333h") ≡ Ok (pos 1199999999988)
  pub minus_cut : duration_of (codes "-0.00000000001h") ≡ Ok (negsuc 35)

-- texts that are not durations, or outside 64 bits
pub record RefusedDurationRowsHold : Type 0 where
  pub empty : duration_of [] ≡ Err Invalid
  pub no_unit : duration_of (codes "3") ≡ Err Invalid
  pub sign_alone : duration_of (codes "-") ≡ Err Invalid
  pub unit_alone : duration_of (codes "s") ≡ Err Invalid
  pub point_alone : duration_of (codes ".") ≡ Err Invalid
  pub minus_point : duration_of (codes "-.") ≡ Err Invalid
  pub point_and_unit : duration_of (codes ".s") ≡ Err Invalid
  pub plus_point_and_unit : duration_of (codes "+.s") ≡ Err Invalid
  pub day : duration_of (codes "1d") ≡ Err Invalid
  pub above : duration_of (codes "9223372036854775810ns") ≡ Err Invalid
  pub first_above : duration_of (codes "9223372036854775808ns") ≡ Err Invalid
  pub below : duration_of (codes "-9223372036854775809ns") ≡ Err Invalid
  pub above_us : duration_of (codes "9223372036854776us") ≡ Err Invalid
  pub above_hours : duration_of (codes "3000000h") ≡ Err Invalid
  pub above_fraction : duration_of (codes "9223372036854775.808us") ≡ Err Invalid
  pub above_parts : duration_of (codes "9223372036854ms775us808ns") ≡ Err Invalid
  pub two_zeros : duration_of (codes "00") ≡ Err Invalid
  pub last_without_unit : duration_of (codes "1h1") ≡ Err Invalid
  pub blank : duration_of (codes "1 s") ≡ Err Invalid
  pub capital : duration_of (codes "1S") ≡ Err Invalid
  pub minus_inside : duration_of (codes "1h-1m") ≡ Err Invalid
  pub point_and_unit_last : duration_of (codes "5m.s") ≡ Err Invalid
  pub two_signs : duration_of (codes "--1s") ≡ Err Invalid

-- fractions that are not read exactly: Go reads them as floats
pub record FineDurationRowsHold : Type 0 where
  pub hours : duration_of (codes "0.3333333333333333333h") ≡ Err TooFine
  pub nanoseconds : duration_of (codes "1.5ns") ≡ Err TooFine
  pub microseconds : duration_of (codes "1.0000us") ≡ Err TooFine

-- whole units: those of Go's Duration.Hours, Minutes, Seconds and Milliseconds, cut. If almost a whole unit is left of many, the
-- sum of doubles is the next unit: 16777216 is 2^24, 4096 is 2^12
pub record DurationPartRowsHold : Type 0 where
  pub some_hours : hours (pos 5400000000000) ≡ pos 1
  pub some_minutes : minutes (pos 5400000000000) ≡ pos 90
  pub some_seconds : seconds (pos 10500000000) ≡ pos 10
  pub some_milliseconds : milliseconds (pos 10500999999) ≡ pos 10500
  pub no_hour : hours (pos 3599999999999) ≡ pos 0
  pub minus_hours : hours (negsuc 5399999999999) ≡ negsuc 0
  pub minus_seconds : seconds (negsuc 1999999998) ≡ negsuc 0
  pub minus_milliseconds : milliseconds (negsuc 1999998) ≡ negsuc 0
  pub below_a_double : seconds (pos 8388608999999999) ≡ pos 8388608
  pub not_below_a_double : seconds (pos 16777216999999999) ≡ pos 16777217
  pub minus_not_below : seconds (negsuc 16777216999999998) ≡ negsuc 16777216
  pub two_nanoseconds_below : seconds (pos 16777216999999998) ≡ pos 16777216
  pub below_a_double_of_hours : hours (pos 7379999999999999) ≡ pos 2049
  pub not_below_a_double_of_hours : hours (pos 14749199999999999) ≡ pos 4097
  pub most_hours : hours (pos 9223372036854775807) ≡ pos 2562047
  pub least_minutes : minutes (negsuc 9223372036854775807) ≡ negsuc 153722866

-- sums: within 64 bits
pub record DurationSumRowsHold : Type 0 where
  pub within : fitting (pos 60000000000 +ℤ negsuc 999999999) ≡ Some (pos 59000000000)
  pub greatest : fitting (pos 9223372036854775806 +ℤ pos 1) ≡ Some (pos 9223372036854775807)
  pub above : fitting (pos 9223372036854775807 +ℤ pos 1) ≡ None
  pub least : fitting (negsuc 9223372036854775806 -ℤ pos 1) ≡ Some (negsuc 9223372036854775807)
  pub below : fitting (negsuc 9223372036854775807 -ℤ pos 1) ≡ None
  pub minus : fitting (neg_ℤ (pos 60000000000)) ≡ Some (negsuc 59999999999)
  pub least_negated : fitting (neg_ℤ (negsuc 9223372036854775807)) ≡ None
