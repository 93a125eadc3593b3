-- Proofs of `dates::date_of`: the date has the day's number, and its year the days before it.
use Rattle.std.proofs.Common.{◌≡◌, ap, arith}
use Rattle.timestamps.proofs.dates.date_of.Goals as goal
use Rattle.timestamps.specs.Calendar.{days_before_year}

pub returns-clause-rest : goal.returns-clause-rest
returns-clause-rest c =
    let e : days_before_year c.date_in.result.year ≡ days_before_year c.year_of-year.result = ap (λ y. days_before_year y) c.date_in.ensures.year in
    omega (arith, e, c.days_before_year.ensures.value, c.year_of-year.ensures.begun)
