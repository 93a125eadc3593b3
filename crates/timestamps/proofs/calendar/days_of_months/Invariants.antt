-- Loop invariants of `days_of_months` (src/calendar.rt).
use Rattle.std.proofs.Common.{◌≡◌, ◌*◌, ◌≤◌}
use Rattle.timestamps.specs.Calendar.{days_of_months}
use Rattle.timestamps.proofs.calendar.days_of_months.Given as goal

abbrev pub invariant-months : goal.invariant-months
invariant-months l = record { so_far : l.days ≡ days_of_months l.leap l.passed; small : l.days ≤ 31 * l.passed }
