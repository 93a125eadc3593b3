-- Termination measure of `members::without_nulls`.
use Rattle.std.proofs.Common.{length}
use Rattle.json_fields.proofs.members.+without_nulls.Given as goal

abbrev pub decreases-without_nulls : goal.decreases-without_nulls
decreases-without_nulls l = length l.keys.now
