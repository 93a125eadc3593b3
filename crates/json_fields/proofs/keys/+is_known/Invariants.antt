-- Termination measure of `keys::is_known`.
use Rattle.std.proofs.Common.{length}
use Rattle.json_fields.proofs.keys.+is_known.Given as goal

abbrev pub decreases-is_known : goal.decreases-is_known
decreases-is_known l = length l.known.now
