-- Proof obligations of `cut_at_sign` (src/text/cuts.rt).
use Rattle.assembler.proofs.NameBytes.{plus_cut}
use Rattle.assembler.proofs.text.cuts.cut_at_sign.Goals as goal

pub returns-clause-only : goal.returns-clause-only
returns-clause-only c = λ r z e. plus_cut r z _ _ _ c.in-Some.ensures.only c.in-Some.ensures.none e
