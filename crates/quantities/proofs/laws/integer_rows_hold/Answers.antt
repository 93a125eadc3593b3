-- Proofs of `laws::integer_rows_hold`: each row by computing it.
use Rattle.std.proofs.Common.{refl}
use Rattle.text_numbers.specs.Numbers.{number_after}
use Rattle.quantities.specs.Quantities.{int_of, small_int, spelled_of}
use Rattle.quantities.specs.Suffixes.{binary_of, decimal_of, exponent_in}
use Rattle.quantities.proofs.laws.integer_rows_hold.Goals as goal

pub returns : goal.returns
unfolding spelled_of decimal_of binary_of exponent_in int_of small_int number_after
returns c = record { zero = refl; ones = refl; kilos = refl; minus = refl; point_without_digits = refl; kibis = refl; zeros = refl; most_digits = refl; greatest = refl; low_bits = refl; large_zero = refl; no_millis = refl; no_fraction_of_zero = refl; no_half = refl; no_too_many_digits = refl; no_above = refl; no_pebis = refl; no_many_digits_of_gibis = refl; no_far_above = refl; no_quantity = refl; no_scale_of_low_bits = refl; is = refl; is_not = refl; is_no_quantity = refl }
