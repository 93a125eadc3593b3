-- Proof obligations of `operand` (src/text/operands.rt).
use Rattle.assembler.proofs.Prelude.{refl, Imm}
use Rattle.assembler.proofs.text.operands.operand.Goals as goal

pub returns : goal.returns
returns c = let t = c.in_ok-number.ensures in (Imm t.0, (t.0, t.1, refl), t.2)
