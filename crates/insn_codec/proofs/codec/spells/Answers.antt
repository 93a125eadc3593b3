-- Proof obligations of `spells` (src/codec.rt).
use Rattle.insn_codec.proofs.Prelude.{refl}
use Rattle.insn_codec.proofs.Spelled.{one_begins}
use Rattle.insn_codec.proofs.codec.spells.Goals as goal

pub returns-in-None-default : goal.returns-in-None-default
returns-in-None-default c = ((λ t. one_begins _ _ _ _ _ c.in-None-default.is-0 c.encode-its_first.ensures c.if-its_first-first.true), (λ b. refl))
