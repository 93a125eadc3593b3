-- Proof obligations of `of_width` (src/lines/mnemonics.rt).
use Rattle.assembler.proofs.Prelude.{codes}
use Rattle.assembler.proofs.Ends.{differ, no_name, no_width}
use Rattle.assembler.proofs.lines.mnemonics.of_width.Goals as goal

pub returns-in_err-name : goal.returns-in_err-name
returns-in_err-name c = rw c.from_residual.ensures (no_width c.args.word.now c.in_err-name.ensures)

pub returns-in_err-comparison : goal.returns-in_err-comparison
returns-in_err-comparison c = rw c.from_residual-in_err-comparison.ensures
    (no_name c.args.word.now c.in_ok-name.name.now c.in_ok-name.width c.in_ok-name.ensures
    (differ c.in_ok-name.name.now (codes "neg") c.eq.result c.eq.ensures c.if-eq.false) c.in_default.ensures c.in_err-comparison.ensures)
