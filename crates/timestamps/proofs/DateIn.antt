-- A day of a year, by its month.
use Rattle.std.proofs.Common.{◌≡◌, ◌∙◌, ℕ, ◌+◌, ◌-◌, ◌<◌, ◌≤◌, Bool, true, cond, nat_le, ◌&&◌, arith, ap, ap₂}
use Rattle.std.proofs.lemmas.Bool.{cases_lt}
use Rattle.std.proofs.lemmas.Bool.Decides.{nat_tests}
use Rattle.timestamps.proofs.Years.{whole_year}
use Rattle.timestamps.specs.Calendar.{day_number, days_before_year, days_in, days_of_months, is_day, is_leap, year_days}
use Rattle.timestamps.specs.Fields.{IsDate}
use mathlib.Core.Logic.{inl, inr}

yes : (a b : ℕ) → a ≤ b → nat_le a b ≡ true
yes a b h = grind (arith, nat_tests)

exists : (y m d : ℕ) → 1 ≤ m → m ≤ 12 → 1 ≤ d → d ≤ days_in (is_leap y) m → is_day y m d ≡ true
unfolding is_day
exists y m d h i j k = ap₂ (λ a b. a && b) (ap₂ (λ a b. a && b) (yes 1 m h) (yes m 12 i)) (ap₂ (λ a b. a && b) (yes 1 d j) (yes d (days_in (is_leap y) m) k))

number_is : (y p r : ℕ) → day_number y (p + 1) (r + 1) ≡ days_before_year y + (days_of_months (is_leap y) p + r)
unfolding day_number
number_is y p r =
    let e : p + 1 - 1 ≡ p = omega arith in
    let f : r + 1 - 1 ≡ r = omega arith in
    rw (e, f) (omega arith)

le_suc : (r d : ℕ) → r < d → r + 1 ≤ d
le_suc r d h = omega arith

-- in December fewer than 31 days are left
in_december : (leap : Bool) (n p r : ℕ) → n < cond leap 366 365 → p ≡ 11 → days_of_months leap p + r ≡ n → r < 31
in_december leap n p r h e g = let q : days_of_months leap p ≡ days_of_months leap 11 = ap (days_of_months leap) e in omega (arith, whole_year leap)

december : (leap : Bool) (p : ℕ) → p ≡ 11 → days_in leap (p + 1) ≡ 31
december leap p e = ap (λ k. days_in leap (k + 1)) e

left_by : (leap : Bool) (n p r : ℕ) → n < cond leap 366 365 → p ≤ 11 → days_of_months leap p + r ≡ n → (p < 11 → r < days_in leap (p + 1)) → r < days_in leap (p + 1)
left_by leap n p r h i g k = elim (cases_lt p 11) [
  | inl l ↦ k l
  | inr m ↦ (let e : p ≡ 11 = omega arith in rw (december leap p e) (in_december leap n p r h e g))
]

pub date_made : (y n p r : ℕ) → n < year_days y → p ≤ 11 → days_of_months (is_leap y) p + r ≡ n → (p < 11 → r < days_in (is_leap y) (p + 1))
    → IsDate (days_before_year y + n) (record { year = y; month = p + 1; day = r + 1 })
date_made y n p r h i g k =
    let l : r < days_in (is_leap y) (p + 1) = left_by (is_leap y) n p r h i g k in
    record {
      exists = exists y (p + 1) (r + 1) (omega arith) (omega arith) (omega arith) (le_suc r (days_in (is_leap y) (p + 1)) l);
      number = number_is y p r ∙ ap (λ x. days_before_year y + x) g;
    }
