-- Proof obligations of `swapped` (src/lines/mnemonics.rt).
use Rattle.assembler.proofs.lines.mnemonics.swapped.Goals as goal
use Rattle.assembler.proofs.Prelude.{append_cancel_left, arith}

pub returns : goal.returns
returns c = grind (arith, append_cancel_left)
