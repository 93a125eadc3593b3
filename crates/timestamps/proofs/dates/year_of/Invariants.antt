-- Loop invariants and measures of `year_of` (src/dates.rt).
use Rattle.std.proofs.Common.{◌-◌, ◌<◌, ◌≤◌}
use Rattle.timestamps.specs.Calendar.{days_before_year}
use Rattle.timestamps.proofs.dates.year_of.Given as goal

abbrev pub invariant-years : goal.invariant-years
invariant-years l = record { small : l.year < 10000; begun : days_before_year l.year ≤ l.day }

abbrev pub decreases-years : goal.decreases-years
decreases-years l = 10000 - l.year
