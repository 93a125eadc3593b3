-- Loop invariants and measures of `Checkpoints::aside` (src/checkpoints.rt).
use Rattle.history.proofs.Prelude.{length, IsSpared}
use Rattle.history.proofs.Places.{SameNearest}
use Rattle.history.proofs.checkpoints.Checkpoints.aside.Given as goal

abbrev pub invariant-loop-copy : goal.invariant-loop-copy
invariant-loop-copy g l = record {
  spared : IsSpared l.fn.self l.self;
  nearest : SameNearest l.fn.self.places l.self.places l.shown.place l.k;
}

abbrev pub decreases-loop-copy : goal.decreases-loop-copy
decreases-loop-copy g l = length l.self.places
