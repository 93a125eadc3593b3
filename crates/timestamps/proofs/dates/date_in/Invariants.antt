-- Loop invariants and measures of `date_in` (src/dates.rt).
use Rattle.std.proofs.Common.{◌≡◌, ◌+◌, ◌-◌, ◌≤◌}
use Rattle.timestamps.specs.Calendar.{days_of_months}
use Rattle.timestamps.proofs.dates.date_in.Given as goal

abbrev pub invariant-months : goal.invariant-months
invariant-months l = record { few : l.passed ≤ 11; so_far : days_of_months l.leap l.passed + l.rest ≡ l.day_of_year }

abbrev pub decreases-months : goal.decreases-months
decreases-months l = 11 - l.passed
