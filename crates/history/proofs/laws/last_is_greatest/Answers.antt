-- Proof obligations of `last_is_greatest` (src/laws.rt).
use Rattle.history.proofs.Searches.{last_only}
use Rattle.history.proofs.laws.last_is_greatest.Goals as goal

pub returns : goal.returns
returns c = last_only
