-- Proof obligations of `source_rows_stand` (src/rows.rt).
use Rattle.std.proofs.Common.{arith, pos, refl, rules}
use Rattle.insn_codec.specs.Lines.{decimal, hex_digits}
use Rattle.insn_codec.specs.declared.alu_op.AluOp.TheVariants.{Mov}
use Rattle.insn_codec.specs.declared.insn.Insn.TheVariants.{Alu}
use Rattle.insn_codec.specs.declared.operand.Operand.TheVariants.{Imm}
use Rattle.insn_codec.specs.declared.register.Register.TheVariants.{R0}
use Rattle.insn_codec.specs.declared.statement.Statement.TheVariants.{Insn}
use Rattle.insn_codec.specs.declared.width.Width.TheVariants.{W64}
use Rattle.assembler.specs.Items.{InRange, statement}
use Rattle.machine_rows.proofs.rows.source_rows_stand.Goals as goal

-- 2147483648 is no signed number of 32 bits
wide_is_out : InRange (statement (Insn (Alu Mov W64 R0 (Imm (pos 2147483648))))) → ⊥
wide_is_out h = grind (arith, h)

pub returns-clause-names : goal.returns-clause-names
unfolding decimal hex_digits
returns-clause-names c = record {
  letters = search rules;
  one_small_letter = search rules;
  last_small_letter = search rules;
  one_capital = search rules;
  last_capital = search rules;
  underscore = search rules;
  digits = search rules;
  no_name = λ h. grind (arith, h);
  from_a_digit = λ h. grind (arith, h);
  from_a_backquote = λ h. grind (arith, h);
  from_a_brace = λ h. grind (arith, h);
  from_an_at = λ h. grind (arith, h);
  from_a_bracket = λ h. grind (arith, h);
  from_a_caret = λ h. grind (arith, h);
  from_a_space = λ h. grind (arith, h);
  with_a_dash = λ h. grind (arith, h);
  with_a_slash = λ h. grind (arith, h);
  with_a_colon = λ h. grind (arith, h);
}

pub returns-clause-lines : goal.returns-clause-lines
unfolding decimal hex_digits
returns-clause-lines c = record {
  widest_slot = search rules;
  wider_slot = λ h. grind (arith, h);
  says_exit = search rules;
  says_another_line = λ h. grind (arith, h);
  says_no_name = λ h. grind (arith, h);
  says_a_wide_number = λ h. wide_is_out h.2;
  each_says = search rules;
  first_says_another = λ h. grind (arith, h);
  last_says_another = λ h. grind (arith, h);
  one_says_nothing = λ h. grind (arith, h);
  one_is_missing = λ h. grind (arith, h);
  no_slots = refl;
  four_slots = refl;
}
