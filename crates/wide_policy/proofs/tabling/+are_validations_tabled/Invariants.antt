-- Termination measure of `tabling::are_validations_tabled`.
use Rattle.std.proofs.Common.{length}
use Rattle.wide_policy.proofs.tabling.+are_validations_tabled.Given as goal

abbrev pub decreases-are_validations_tabled : goal.decreases-are_validations_tabled
decreases-are_validations_tabled l = length l.given.now
