-- Proof obligations of `call` (src/lines/jumps.rt).
use Rattle.assembler.proofs.Prelude.{refl, statement}
use Rattle.insn_codec.specs.declared.insn.Insn.TheVariants as insn
use Rattle.insn_codec.specs.declared.statement.Statement.TheVariants as statement_kind
use Rattle.assembler.proofs.lines.jumps.call.Goals as goal

pub returns-in_default-long : goal.returns-in_default-long
returns-in_default-long c =
    let e = c.in-Some.ensures in
    (statement (statement_kind.Insn (insn.Call e.0)), tt, refl, e.2, λ r. c.in_default-long.ensures e.0 e.1 r)
