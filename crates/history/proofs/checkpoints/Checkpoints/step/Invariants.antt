-- Loop invariants and measures of `Checkpoints::step` (src/checkpoints.rt).
use Rattle.history.proofs.Prelude.{◌≡◌, length, IsSpared}
use Rattle.history.proofs.checkpoints.Checkpoints.step.Given as goal

abbrev pub invariant-loop-self : goal.invariant-loop-self
invariant-loop-self g l = record {
  spared : IsSpared l.fn.self l.self;
  place : l.machine.place ≡ l.fn.machine.place;
  same : g.E.Emulator.state l.machine.machine ≡ g.E.Emulator.state l.fn.machine.machine;
}

abbrev pub decreases-loop-self : goal.decreases-loop-self
decreases-loop-self g l = length l.self.places
