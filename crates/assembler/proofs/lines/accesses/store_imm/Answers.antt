-- Proof obligations of `store_imm` (src/lines/accesses.rt).
use Rattle.assembler.proofs.Prelude.{refl, statement}
use Rattle.insn_codec.specs.declared.insn.Insn.TheVariants as insn
use Rattle.insn_codec.specs.declared.statement.Statement.TheVariants as statement_kind
use Rattle.assembler.proofs.lines.accesses.store_imm.Goals as goal

pub returns-in_default-short : goal.returns-in_default-short
returns-in_default-short c =
    let e = c.in-Some.ensures in
    (statement (statement_kind.Insn (insn.StoreImm c.args.size c.in-Some.dst e.0 e.1)), tt, refl, e.4, λ r. c.in_default-short.ensures e.0 e.2 r.0)

pub returns-in_default-long : goal.returns-in_default-long
returns-in_default-long c =
    let e = c.in-Some.ensures in
    (statement (statement_kind.Insn (insn.StoreImm c.args.size c.in-Some.dst e.0 e.1)), tt, refl, e.4, λ r. c.in_default-long.ensures e.1 e.3 r.1)
