-- Proof obligations of `statement_at` (src/front.rt).
use Rattle.disassembler.proofs.Prelude.{ap, arith, sym, ◌∙◌, spelled}
use Rattle.disassembler.proofs.Words.{is_insn, is_slot, on_hand_is}
use Rattle.disassembler.proofs.front.statement_at.Goals as goal

pub returns-in-Some-clause-is : goal.returns-in-Some-clause-is
returns-in-Some-clause-is c =
    is_insn c.args.code.now c.in-Some.insn
    (sym (ap spelled (on_hand_is c.args.code.now c.read_u64-first.result c.second_word.result c.requires.some (λ k. omega (arith, c.type_inv.code k)) c.read_u64-first.ensures c.second_word.ensures)) ∙ sym c.in-Some.ensures.is)

pub returns-in-None-clause-is : goal.returns-in-None-clause-is
returns-in-None-clause-is c =
    is_slot c.args.code.now c.read_u64.result c.requires.some
    (sym (ap spelled (on_hand_is c.args.code.now c.read_u64-first.result c.second_word.result c.requires.some (λ k. omega (arith, c.type_inv.code k)) c.read_u64-first.ensures c.second_word.ensures)) ∙ sym c.in-None.ensures.is)
    c.read_u64.ensures
