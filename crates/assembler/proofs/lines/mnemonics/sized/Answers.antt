-- Proof obligations of `sized` (src/lines/mnemonics.rt).
use Rattle.assembler.proofs.lines.mnemonics.sized.Goals as goal
use Rattle.assembler.proofs.Prelude.{append_cancel_left, arith}

pub returns : goal.returns
returns c = grind (arith, append_cancel_left)
