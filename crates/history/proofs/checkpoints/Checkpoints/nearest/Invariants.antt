-- Loop invariants of `Checkpoints::nearest` (src/checkpoints.rt).
use Rattle.history.proofs.Prelude.{◌∷◌, ◌≤◌, Contains, IsCheckpoint}
use Rattle.history.proofs.Places.{NoneNearer}
use Rattle.history.proofs.checkpoints.Checkpoints.nearest.Given as goal

abbrev pub invariant-loop-i : goal.invariant-loop-i
invariant-loop-i g l = record {
  here : IsCheckpoint g.E.Emulator.state l.self.origin l.nearest;
  among : Contains (0 ∷ l.self.places) l.nearest.place;
  at_most : l.nearest.place ≤ l.k;
  greatest : NoneNearer l.self.places l.i l.k l.nearest.place;
}
