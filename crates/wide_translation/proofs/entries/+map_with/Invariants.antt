-- Measure of `entries::map_with`.
use Rattle.std.proofs.Common.{length}
use Rattle.wide_translation.proofs.entries.+map_with.Given as goal

abbrev pub decreases-map_with : goal.decreases-map_with
decreases-map_with l = length l.parts.now
