-- Termination measure of `tabling::are_variables_tabled`.
use Rattle.std.proofs.Common.{length}
use Rattle.wide_policy.proofs.tabling.+are_variables_tabled.Given as goal

abbrev pub decreases-are_variables_tabled : goal.decreases-are_variables_tabled
decreases-are_variables_tabled l = length l.given.now
