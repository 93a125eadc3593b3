-- Proof obligations of `load_signed` (src/lines/accesses.rt).
use Rattle.assembler.proofs.Prelude.{refl, statement}
use Rattle.insn_codec.specs.declared.insn.Insn.TheVariants as insn
use Rattle.insn_codec.specs.declared.statement.Statement.TheVariants as statement_kind
use Rattle.assembler.proofs.lines.accesses.load_signed.Goals as goal

pub returns-in_default-short : goal.returns-in_default-short
returns-in_default-short c =
    let e = c.in-Some.ensures in
    (statement (statement_kind.Insn (insn.LoadSigned c.args.size c.in-Some.dst c.in-Some.src e.0)), tt, refl, e.2, λ r. c.in_default-short.ensures e.0 e.1 r)
