-- Proofs of `dates::date_in`: the months passed, and the days left.
use Rattle.std.proofs.Common.{◌≡◌, ◌∙◌, ◌+◌, ◌<◌, ap, arith, sym, subst}
use Rattle.timestamps.proofs.DateIn.{date_made}
use Rattle.timestamps.proofs.Years.{months_follow, no_month}
use Rattle.timestamps.proofs.dates.date_in.Goals as goal
use Rattle.timestamps.proofs.dates.date_in.Goals.{then-months-test+else-days_in-rest, else-months-test}
use Rattle.timestamps.specs.Calendar.{days_in, days_of_months}

pub months-init : goal.months-init
months-init c = record { few = omega arith; so_far = omega (arith, no_month c.is_leap-leap.result) }

pub months-preserved : goal.months-preserved
months-preserved c =
    let e : days_of_months c.is_leap-leap.result (c.months.passed + 1) ≡ days_of_months c.is_leap-leap.result c.months.passed + c.days_in-rest.result =
    months_follow c.is_leap-leap.result c.months.passed ∙ ap (λ x. days_of_months c.is_leap-leap.result c.months.passed + x) (sym c.days_in-rest.ensures.value) in
    let q : c.days_in.result ≡ c.days_in-rest.result = c.days_in.ensures.value ∙ sym c.days_in-rest.ensures.value in
    record { few = omega arith; so_far = omega (arith, e, q, c.months.invariant.so_far, c.if-days_in-rest.true) }

pub returns-clause-date : goal.returns-clause-date
returns-clause-date c =
    date_made c.args.year c.args.day_of_year c.months.passed c.months.rest c.requires c.months.invariant.few
    (ap (λ leap. days_of_months leap c.months.passed + c.months.rest) (sym c.is_leap-leap.ensures) ∙ c.months.invariant.so_far)
    (elim c.months-test.branch [
      | then-months-test+else-days_in-rest w ↦ (λ h. subst (λ d. c.months.rest < d) (w.days_in.ensures.value ∙ ap (λ leap. days_in leap (c.months.passed + 1)) c.is_leap-leap.ensures) w.if-days_in-rest.false)
      | else-months-test w ↦ (λ h. absurd (omega arith))
    ])
