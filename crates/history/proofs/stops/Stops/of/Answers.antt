-- Proof obligations of `Stops::of` (src/stops.rt).
use Rattle.history.proofs.Halving.{rises}
use Rattle.history.proofs.stops.Stops.of.Goals as goal

pub invariant_of-result : goal.invariant_of-result
invariant_of-result c = rises _ _ c.is_sorted-rise.ensures.cases
