-- Proof obligations of `all` (src/words.rt).
use Rattle.host.proofs.words.all.Goals as goal

pub returns-clause-all : goal.returns-clause-all
returns-clause-all g c = let h = c.in_ok-collect.ensures.runs tt in (h.0, h.1, h.2, h.3.0)
