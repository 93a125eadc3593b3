-- The Gregorian calendar, before 1582 too (RFC 3339, appendix C): days are numbered from the start of year 0, a leap year.
use Rattle.std.specs.Prelude.{ℕ, zero, suc, ◌+◌, ◌-◌, ◌*◌, ◌/◌, ◌%◌, Bool, not, ◌&&◌, ◌||◌, ◌==◌, nat_le, if◌then◌else◌}

abbrev pub is_leap : ℕ → Bool
is_leap year = (year % 4 == 0) && (not (year % 100 == 0) || (year % 400 == 0))

-- the days of a year
abbrev pub year_days : ℕ → ℕ
year_days year = if is_leap year then 366 else 365

-- the days of a month, 1 to 12, in a leap year or another
abbrev pub days_in : Bool → ℕ → ℕ
days_in leap month =
    if month == 2 then (if leap then 29 else 28)
    else (if ((month == 4) || (month == 6)) || ((month == 9) || (month == 11)) then 30 else 31)

-- the days of the first n months
unfoldable pub days_of_months : Bool → ℕ → ℕ
days_of_months leap zero = 0
days_of_months leap (suc n) = days_of_months leap n + days_in leap (suc n)

-- the days before a year: 365 for each year, and one more for each leap year
abbrev pub days_before_year : ℕ → ℕ
days_before_year year = 365 * year + (year + 3) / 4 + (year + 399) / 400 - (year + 99) / 100

-- whether the day exists
unfoldable pub is_day : ℕ → ℕ → ℕ → Bool
is_day year month day = (nat_le 1 month && nat_le month 12) && (nat_le 1 day && nat_le day (days_in (is_leap year) month))

-- the days from the start of year 0 to a day
unfoldable pub day_number : ℕ → ℕ → ℕ → ℕ
day_number year month day = days_before_year year + days_of_months (is_leap year) (month - 1) + (day - 1)
