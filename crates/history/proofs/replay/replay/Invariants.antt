-- Loop invariants and measures of `replay` (src/replay.rt).
use Rattle.history.proofs.Prelude.{◌≤◌, ◌-◌, IsCheckpoint, HasPlacesAdded}
use Rattle.history.proofs.replay.replay.Given as goal

abbrev pub invariant-loop-place : goal.invariant-loop-place
invariant-loop-place g l = record {
  kept : HasPlacesAdded l.fn.checkpoints l.checkpoints;
  here : IsCheckpoint g.E.Emulator.state l.fn.checkpoints.origin l.at;
  order : (l.fn.from.place ≤ l.at.place) × (l.at.place ≤ l.to);
}

abbrev pub decreases-loop-place : goal.decreases-loop-place
decreases-loop-place g l = l.to - l.at.place
