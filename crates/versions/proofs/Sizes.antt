-- Numbers of 64 bits, read with a cap.
use Rattle.std.proofs.Common.{◌≡◌, ℕ, ◌-◌, ◌^◌, ◌<◌, min, nat_lt, ◌||◌, not, Bool, true, List, arith}
use Rattle.std.proofs.lemmas.Bool.{and_parts}
use Rattle.std.proofs.lemmas.Bool.Decides.{nat_tests}
use Rattle.text_numbers.specs.Numbers.{number}
use Rattle.versions.specs.Identifiers.{has_zero, is_small}
use Rattle.versions.specs.Versions.{is_allowed}

pub capped : (n : ℕ) → nat_lt (min n (2 ^ 128 - 1)) (2 ^ 64) ≡ nat_lt n (2 ^ 64)
capped n = grind (arith, nat_tests)

pub below : (n : ℕ) → nat_lt n (2 ^ 64) ≡ true → n < 2 ^ 64
below n h = grind (arith, nat_tests)

pub allowed_small : (normalize : Bool) (ds : List ℕ) → is_allowed normalize ds ≡ true → number ds < 2 ^ 64
allowed_small normalize ds h = below (number ds) (and_parts (normalize || not (has_zero ds)) (is_small ds) h).1
