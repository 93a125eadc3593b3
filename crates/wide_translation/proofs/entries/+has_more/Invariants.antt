-- Measure of `entries::has_more`.
use Rattle.std.proofs.Common.{length}
use Rattle.wide_translation.proofs.entries.+has_more.Given as goal

abbrev pub decreases-has_more : goal.decreases-has_more
decreases-has_more l = length l.parts.now
