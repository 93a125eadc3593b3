-- Proof obligations of `branch` (src/lines/jumps.rt).
use Rattle.assembler.proofs.JumpLines.{branch_out}
use Rattle.assembler.proofs.lines.jumps.branch.Goals as goal

pub returns-in_default-operand_in_range : goal.returns-in_default-operand_in_range
returns-in_default-operand_in_range c =
    let e = c.in-Some.ensures in
    branch_out c.args.comparison c.args.width c.in-Some.dst e.0 c.in-Some.target e.1 c.args.text.now e.3 e.4 (λ r. c.in_default-operand_in_range.ensures e.0 e.2 r)
