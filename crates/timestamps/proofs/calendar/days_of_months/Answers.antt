-- Proofs of `calendar::days_of_months`: the loop adds month by month.
use Rattle.std.proofs.Common.{◌∙◌, ◌+◌, ap₂, arith, sym}
use Rattle.timestamps.proofs.Years.{months_follow, no_month}
use Rattle.timestamps.proofs.calendar.days_of_months.Goals as goal

pub months-init : goal.months-init
months-init c = record { so_far = sym (no_month c.args.leap); small = omega arith }

pub months-preserved : goal.months-preserved
months-preserved c = record {
  so_far = ap₂ (λ a b. a + b) c.months.invariant.so_far c.days_in-days.ensures.value ∙ sym (months_follow c.args.leap c.months.passed);
  small = omega arith;
}
