-- Proof obligations of `variables_are_in_range` (src/laws.rt).
use Rattle.wide_reach.proofs.Variables as variables
use Rattle.wide_reach.proofs.laws.variables_are_in_range.Goals as goal

-- by induction on the variables
pub returns : goal.returns
returns c = variables.variables_are_in_range
