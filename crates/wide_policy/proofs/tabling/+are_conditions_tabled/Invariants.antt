-- Termination measure of `tabling::are_conditions_tabled`.
use Rattle.std.proofs.Common.{length}
use Rattle.wide_policy.proofs.tabling.+are_conditions_tabled.Given as goal

abbrev pub decreases-are_conditions_tabled : goal.decreases-are_conditions_tabled
decreases-are_conditions_tabled l = length l.given.now
