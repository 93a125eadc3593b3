-- Loop invariants and measures of `replay_sparing` (src/replay.rt).
use Rattle.history.proofs.Prelude.{◌≤◌, ◌-◌, IsCheckpoint, HasPlacesAdded}
use Rattle.history.proofs.replay.replay_sparing.Given as goal

abbrev pub invariant-loop-checkpoints : goal.invariant-loop-checkpoints
invariant-loop-checkpoints g l = record {
  kept : HasPlacesAdded l.fn.checkpoints l.checkpoints;
  here : IsCheckpoint g.E.Emulator.state l.fn.checkpoints.origin l.at;
  order : l.at.place ≤ l.to;
}

abbrev pub decreases-loop-checkpoints : goal.decreases-loop-checkpoints
decreases-loop-checkpoints g l = l.to - l.at.place
