-- Loop invariant and measure of `items` (src/reader.rt).
use Rattle.std.proofs.Common.{◌-◌, ◌≤◌, length}
use Rattle.pattern_reader.proofs.Loop.{IsAt}
use Rattle.pattern_reader.proofs.reader.items.Given as goal

abbrev pub invariant-loop-at : goal.invariant-loop-at
invariant-loop-at l = record {
  within : l.at ≤ length l.points;
  place : IsAt l.purpose l.fold l.from l.points l.reader l.at;
}

abbrev pub decreases-loop-at : goal.decreases-loop-at
decreases-loop-at l = length l.points - l.at
