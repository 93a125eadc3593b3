-- Proof obligations of `alu` (src/lines/arithmetic.rt).
use Rattle.assembler.proofs.Prelude.{refl, statement}
use Rattle.insn_codec.specs.declared.insn.Insn.TheVariants as insn
use Rattle.insn_codec.specs.declared.statement.Statement.TheVariants as statement_kind
use Rattle.assembler.proofs.lines.arithmetic.alu.Goals as goal

pub returns-in_default-operand_in_range : goal.returns-in_default-operand_in_range
returns-in_default-operand_in_range c =
    let e = c.in-Some.ensures in
    (statement (statement_kind.Insn (insn.Alu c.args.op c.args.width c.in-Some.dst e.0)), tt, refl, e.2, λ r. c.in_default-operand_in_range.ensures e.0 e.1 r)
