-- Proof obligations of `atomic_of_width` (src/lines/mnemonics.rt).
use Rattle.assembler.proofs.Ends.{no_operation}
use Rattle.assembler.proofs.lines.mnemonics.atomic_of_width.Goals as goal

pub returns-in_err-op : goal.returns-in_err-op
returns-in_err-op c = rw c.from_residual-in_err-op.ensures
    (no_operation c.args.text.now c.in_ok-name.name.now c.in_ok-name.width c.in_ok-name.ensures c.in_err-op.ensures)
