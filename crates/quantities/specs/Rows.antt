-- Texts with the values that the definitions give: those of ParseQuantity (apimachinery 0.36.4), most from its tests.
use Rattle.std.specs.Prelude.{◌≡◌, ◌-◌, ◌^◌, pos, negsuc, ◌+ℤ◌, ◌-ℤ◌, [], Some, None, Ok, Err, true, false, codes}
use Rattle.std.specs.declared.cmp.Ordering.TheVariants.{Equal, Greater, Less}
use Rattle.quantities.specs.Quantities.{as_integer_of, billionths_of, fitting, is_integer_of, is_quantity, order_of}
use Rattle.quantities.specs.Quantities.{quantity_of, sign_of_text}
use Rattle.quantities.specs.declared.quantity_error.QuantityError.TheVariants.{NotAQuantity, TooLarge}

-- quantities in billionths
pub record QuantityRowsHold : Type 0 where
  pub zero : billionths_of (codes "0") ≡ Some (pos 0)
  pub ones : billionths_of (codes "1") ≡ Some (pos 1000000000)
  pub millis : billionths_of (codes "250m") ≡ Some (pos 250000000)
  pub kibis : billionths_of (codes "1Ki") ≡ Some (pos 1024000000000)
  pub exbis : billionths_of (codes "3Ei") ≡ Some (pos 3458764513820540928000000000)
  pub nanos : billionths_of (codes "5n") ≡ Some (pos 5)
  pub micros : billionths_of (codes "4u") ≡ Some (pos 4000)
  pub kilos : billionths_of (codes "50k") ≡ Some (pos 50000000000000)
  pub megas : billionths_of (codes "7M") ≡ Some (pos 7000000000000000)
  pub gigas : billionths_of (codes "6G") ≡ Some (pos 6000000000000000000)
  pub teras : billionths_of (codes "40T") ≡ Some (pos 40000000000000000000000)
  pub petas : billionths_of (codes "2.5P") ≡ Some (pos 2500000000000000000000000)
  pub exas : billionths_of (codes "1.01E") ≡ Some (pos 1010000000000000000000000000)
  pub exponent : billionths_of (codes "1.3E+6") ≡ Some (pos 1300000000000000)
  pub negative_exponent : billionths_of (codes "0.5e-2") ≡ Some (pos 5000000)
  pub point : billionths_of (codes "100.035k") ≡ Some (pos 100035000000000)
  pub no_digit_after : billionths_of (codes "1.G") ≡ Some (pos 1000000000000000000)
  pub no_digit_before : billionths_of (codes ".0001k") ≡ Some (pos 100000000)
  pub minus : billionths_of (codes "-1.5Gi") ≡ Some (negsuc 1610612735999999999)
  pub plus : billionths_of (codes "+3") ≡ Some (pos 3000000000)
  pub zeros : billionths_of (codes "000000000000000000000001") ≡ Some (pos 1000000000)
  pub rounded_up : billionths_of (codes "3.001n") ≡ Some (pos 4)
  pub rounded_away : billionths_of (codes "-3.001n") ≡ Some (negsuc 3)
  pub finer : billionths_of (codes "0.00000012345") ≡ Some (pos 124)
  pub finest : billionths_of (codes "0.5e-9") ≡ Some (pos 1)
  pub rounded_binary : billionths_of (codes "0.000000000001Ki") ≡ Some (pos 2)
  pub half : billionths_of (codes "0.5Mi") ≡ Some (pos 524288000000000)
  pub hundredth : billionths_of (codes "100.035Ki") ≡ Some (pos 102435840000000)
  pub greatest_binary : billionths_of (codes "9Ei") ≡ Some (pos 9223372036854775807000000000)
  pub capped : billionths_of (codes "9223372036854775807Ki") ≡ Some (pos 9223372036854775807000000000)
  pub capped_minus : billionths_of (codes "-9Ei") ≡ Some (negsuc 9223372036854775806999999999)
  pub not_capped : billionths_of (codes "12E") ≡ Some (pos 12000000000000000000000000000)
  pub low_bits : billionths_of (codes "1e4294967299") ≡ Some (pos 1000000000000)
  pub low_bits_minus : billionths_of (codes "7e4294967295") ≡ Some (pos 700000000)
  pub low_bits_least : billionths_of (codes "0e-9223372036854775808") ≡ Some (pos 0)
  pub sign_alone : billionths_of (codes "-") ≡ Some (pos 0)
  pub point_alone : billionths_of (codes "-.") ≡ Some (pos 0)
  pub suffix_alone : billionths_of (codes "Ti") ≡ Some (pos 0)
  pub exponent_alone : billionths_of (codes "e5") ≡ Some (pos 0)

-- texts that are not quantities
pub record RefusedQuantityRowsHold : Type 0 where
  pub empty : is_quantity [] ≡ false
  pub no_digits_pebi : is_quantity (codes "Pi") ≡ false
  pub no_digits_too_small : is_quantity (codes "e-10") ≡ false
  pub e_alone : is_quantity (codes "1e") ≡ false
  pub sign_of_exponent_alone : is_quantity (codes "1e+") ≡ false
  pub wide_exponent : is_quantity (codes "0e9223372036854775808") ≡ false
  pub two_signs : is_quantity (codes "++1") ≡ false
  pub blank : is_quantity (codes " 1") ≡ false
  pub blank_inside : is_quantity (codes "1 k") ≡ false
  pub two_points : is_quantity (codes "1.1.1") ≡ false
  pub other_letter : is_quantity (codes "10Mo") ≡ false
  pub two_letters : is_quantity (codes "10Mm") ≡ false
  pub capital_kilo : is_quantity (codes "1K") ≡ false
  pub small_kibi : is_quantity (codes "1ki") ≡ false
  pub two_exponents : is_quantity (codes "1e1e1") ≡ false

-- quantities as ints: those that the API server holds as an integer times a power of 10 of at least 0
pub record IntegerRowsHold : Type 0 where
  pub zero : as_integer_of (codes "0") ≡ Some (pos 0)
  pub ones : as_integer_of (codes "50") ≡ Some (pos 50)
  pub kilos : as_integer_of (codes "50k") ≡ Some (pos 50000)
  pub minus : as_integer_of (codes "-50k") ≡ Some (negsuc 49999)
  pub point_without_digits : as_integer_of (codes "1.Ki") ≡ Some (pos 1024)
  pub kibis : as_integer_of (codes "1Ki") ≡ Some (pos 1024)
  pub zeros : as_integer_of (codes "000000000000000000000001") ≡ Some (pos 1)
  pub most_digits : as_integer_of (codes "999999999999999999") ≡ Some (pos 999999999999999999)
  pub greatest : as_integer_of (codes "9E") ≡ Some (pos 9000000000000000000)
  pub low_bits : as_integer_of (codes "1e4294967299") ≡ Some (pos 1000)
  pub large_zero : as_integer_of (codes "0e400") ≡ Some (pos 0)
  pub no_millis : as_integer_of (codes "1000m") ≡ None
  pub no_fraction_of_zero : as_integer_of (codes "1.0") ≡ None
  pub no_half : as_integer_of (codes "0.5Gi") ≡ None
  pub no_too_many_digits : as_integer_of (codes "1000000000000000000") ≡ None
  pub no_above : as_integer_of (codes "10E") ≡ None
  pub no_pebis : as_integer_of (codes "0Pi") ≡ None
  pub no_many_digits_of_gibis : as_integer_of (codes "123456Gi") ≡ None
  pub no_far_above : as_integer_of (codes "9999999999999999999999999999999999999G") ≡ None
  pub no_quantity : as_integer_of (codes "10Mo") ≡ None
  pub no_scale_of_low_bits : as_integer_of (codes "0e9223372036854775807") ≡ None
  pub is : is_integer_of (codes "50.703k") ≡ Some true
  pub is_not : is_integer_of (codes "1000m") ≡ Some false
  pub is_no_quantity : is_integer_of (codes "10Mo") ≡ None

-- signs, and quantities of more than 127 bits
pub record LimitRowsHold : Type 0 where
  pub minus : sign_of_text (codes "-200M") ≡ Some (negsuc 0)
  pub zero : sign_of_text (codes "-0") ≡ Some (pos 0)
  pub finest : sign_of_text (codes "0.1n") ≡ Some (pos 1)
  pub no_sign : sign_of_text (codes "10Mo") ≡ None
  pub empty : quantity_of [] ≡ Err NotAQuantity
  pub far_above : quantity_of (codes "9999999999999999999999999999999999999G") ≡ Err TooLarge
  pub great_exponent : quantity_of (codes "1e400") ≡ Err TooLarge
  pub many_digits : quantity_of (codes "1.000000000000000000000000000000000000000") ≡ Err TooLarge
  pub great : quantity_of (codes "100000000E") ≡ Ok (record { billionths = pos 100000000000000000000000000000000000 })

-- the order of quantities, and sums: 200M and 0.2G, 50M and 50Mi, 50k and 20
pub record QuantityOrderRowsHold : Type 0 where
  pub equal : order_of (pos 200000000000000000) (pos 200000000000000000) ≡ Equal
  pub less : order_of (pos 50000000000000000) (pos 52428800000000000) ≡ Less
  pub greater : order_of (pos 52428800000000000) (pos 50000000000000000) ≡ Greater
  pub negative : order_of (negsuc 1) (negsuc 0) ≡ Less
  pub sum : fitting (pos 50000000000000 +ℤ pos 20000000000) ≡ Ok (record { billionths = pos 50020000000000 })
  pub difference : fitting (pos 50000000000000 -ℤ pos 100000000000000) ≡ Ok (record { billionths = negsuc 49999999999999 })
  pub above : fitting (pos (2 ^ 126) +ℤ pos (2 ^ 126)) ≡ Err TooLarge
  pub least : fitting (negsuc (2 ^ 126 - 1) +ℤ negsuc (2 ^ 126 - 1)) ≡ Ok (record { billionths = negsuc (2 ^ 127 - 1) })
