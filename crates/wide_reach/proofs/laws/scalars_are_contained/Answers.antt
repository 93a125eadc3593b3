-- Proof obligations of `scalars_are_contained` (src/laws.rt).
use Rattle.wide_reach.proofs.Reached as values
use Rattle.wide_reach.proofs.laws.scalars_are_contained.Goals as goal

pub returns : goal.returns
returns c = values.scalars_are_contained
