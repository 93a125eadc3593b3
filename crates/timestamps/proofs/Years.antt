-- The days before a year.
use Rattle.std.proofs.Common.{◌≡◌, ℕ, suc, ◌+◌, ◌*◌, ◌%◌, ◌≤◌, ◌==◌, ◌&&◌, ◌||◌, not, Bool, true, false, cond, arith, refl}
use Rattle.std.proofs.lemmas.Bool.Decides.{nat_tests}
use Rattle.timestamps.specs.Calendar.{days_before_year, days_in, days_of_months, year_days}

pub begins : (y : ℕ) → days_before_year y ≤ 366 * y
begins y = omega arith

pub last_year : (y : ℕ) → 10000 ≤ y → 3652425 ≤ days_before_year y
last_year y h = omega arith

follow_by : (y : ℕ) (a b c : Bool) → (y % 4 == 0) ≡ a → (y % 100 == 0) ≡ b → (y % 400 == 0) ≡ c
    → days_before_year (suc y) ≡ days_before_year y + cond (a && (not b || c)) 366 365
follow_by y true true true p q r = grind (arith, nat_tests)
follow_by y true true false p q r = grind (arith, nat_tests)
follow_by y true false true p q r = grind (arith, nat_tests)
follow_by y true false false p q r = grind (arith, nat_tests)
follow_by y false true true p q r = grind (arith, nat_tests)
follow_by y false true false p q r = grind (arith, nat_tests)
follow_by y false false true p q r = grind (arith, nat_tests)
follow_by y false false false p q r = grind (arith, nat_tests)

pub years_follow : (y : ℕ) → days_before_year (suc y) ≡ days_before_year y + year_days y
years_follow y = follow_by y (y % 4 == 0) (y % 100 == 0) (y % 400 == 0) refl refl refl

pub no_month : (leap : Bool) → days_of_months leap 0 ≡ 0
unfolding days_of_months
no_month leap = refl

pub months_follow : (leap : Bool) (n : ℕ) → days_of_months leap (n + 1) ≡ days_of_months leap n + days_in leap (n + 1)
unfolding days_of_months
months_follow leap n = let e : n + 1 ≡ suc n = omega arith in rw e refl

pub whole_year : (leap : Bool) → days_of_months leap 11 + 31 ≡ cond leap 366 365
unfolding days_of_months
whole_year true = refl
whole_year false = refl
