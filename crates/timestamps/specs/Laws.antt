-- Laws of the calendar.
use Rattle.std.specs.Prelude.{◌≡◌, ℕ, suc, ◌+◌}
use Rattle.timestamps.specs.Calendar.{days_before_year, year_days}
use Rattle.timestamps.specs.Fields.{IsDate}
use Rattle.timestamps.specs.declared.date.Date.{Date}

-- a year begins after the days of the year before it
abbrev pub YearsFollow : Type 0
YearsFollow = (year : ℕ) → days_before_year (suc year) ≡ days_before_year year + year_days year

-- a day has one date
abbrev pub DatesDiffer : Type 0
DatesDiffer = (day : ℕ) (a b : Date) → IsDate day a → IsDate day b → a ≡ b
