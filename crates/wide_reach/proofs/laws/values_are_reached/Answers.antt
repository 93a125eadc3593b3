-- Proof obligations of `values_are_reached` (src/laws.rt).
use Rattle.wide_reach.proofs.Law as law
use Rattle.wide_reach.proofs.laws.values_are_reached.Goals as goal

-- by induction
pub returns : goal.returns
returns c = law.values_are_reached
