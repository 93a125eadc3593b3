-- Proof obligations of `first_is_least` (src/laws.rt).
use Rattle.history.proofs.Searches.{first_only}
use Rattle.history.proofs.laws.first_is_least.Goals as goal

pub returns : goal.returns
returns c = first_only
