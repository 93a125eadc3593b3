use Rattle.wide_widths.proofs.Law as law
use Rattle.wide_widths.proofs.laws.narrow_means_within.Goals as goal

-- by induction
pub returns : goal.returns
returns c = law.narrow_means_within
