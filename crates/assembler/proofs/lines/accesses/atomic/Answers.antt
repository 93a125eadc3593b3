-- Proof obligations of `atomic` (src/lines/accesses.rt).
use Rattle.assembler.proofs.Prelude.{refl, statement}
use Rattle.insn_codec.specs.declared.insn.Insn.TheVariants as insn
use Rattle.insn_codec.specs.declared.statement.Statement.TheVariants as statement_kind
use Rattle.assembler.proofs.lines.accesses.atomic.Goals as goal

pub returns-in_default-short : goal.returns-in_default-short
returns-in_default-short c =
    let e = c.in-Some.ensures in
    (statement (statement_kind.Insn (insn.Atomic c.args.op c.args.width c.in-Some.dst e.0 c.in-Some.src)), tt, refl, e.2, λ r. c.in_default-short.ensures e.0 e.1 r)
