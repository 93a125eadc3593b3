-- Loop invariants of `first_after` (src/search.rt).
use Rattle.history.proofs.Prelude.{◌≡◌, ◌+◌, IsCheckpoint, HasPlacesAdded}
use Rattle.history.proofs.Searches.{NoneBefore}
use Rattle.history.proofs.search.first_after.Given as goal

abbrev pub invariant-loop-place : goal.invariant-loop-place
invariant-loop-place g l = record {
  kept : HasPlacesAdded l.fn.checkpoints l.checkpoints;
  here : IsCheckpoint g.E.Emulator.state l.fn.checkpoints.origin l.at;
  place : l.at.place + 1 ≡ l.place;
  none : NoneBefore l.stops l.fn.checkpoints.origin l.shown.place l.place;
}
