-- The fields of a timestamp, in UTC (cel-go, common/types/timestamp.go).
use Rattle.std.specs.Prelude.{◌≡◌, ℕ, ◌+◌, ◌/◌, ◌%◌, ℤ, pos, ◌+ℤ◌, unsigned_abs, true}
use Rattle.timestamps.specs.Calendar.{day_number, days_before_year, is_day}
use Rattle.timestamps.specs.declared.date.Date.{Date}
use Rattle.timestamps.specs.declared.fields.Fields.{Fields}

-- nanoseconds since the start of year 0, of nanoseconds since 1970
abbrev pub since_0 : ℤ → ℕ
since_0 z = unsigned_abs (z +ℤ pos 62167219200000000000)

-- the day of these nanoseconds, numbered from the start of year 0
abbrev pub day : ℤ → ℕ
day z = since_0 z / 86400000000000

-- the day exists, and this is its number
pub record IsDate (n : ℕ) (d : Date) : Type 0 where
  pub exists : is_day d.year d.month d.day ≡ true
  pub number : day_number d.year d.month d.day ≡ n

-- the fields; the first day of year 0 is a Saturday
pub record AreFields (z : ℤ) (f : Fields) : Type 0 where
  pub date : IsDate (day z) f.date
  pub day_of_year : days_before_year f.date.year + f.day_of_year ≡ day z
  pub day_of_week : f.day_of_week ≡ (day z + 6) % 7
  pub hours : f.hours ≡ since_0 z / 3600000000000 % 24
  pub minutes : f.minutes ≡ since_0 z / 60000000000 % 60
  pub seconds : f.seconds ≡ since_0 z / 1000000000 % 60
  pub milliseconds : f.milliseconds ≡ since_0 z / 1000000 % 1000
