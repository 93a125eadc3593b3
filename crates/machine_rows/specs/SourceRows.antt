-- Lines of sources and their items, by hand: a label is a letter or an underscore followed by letters, underscores and
-- digits, with a colon after it.
use Rattle.std.specs.Prelude.{◌≡◌, pos, [], ◌∷◌, codes}
use Rattle.insn_codec.specs.declared.alu_op.AluOp.TheVariants.{Mov}
use Rattle.insn_codec.specs.declared.insn.Insn.TheVariants.{Alu, Exit, LoadWide}
use Rattle.insn_codec.specs.declared.operand.Operand.TheVariants.{Imm}
use Rattle.insn_codec.specs.declared.register.Register.TheVariants.{R0}
use Rattle.insn_codec.specs.declared.statement.Statement.TheVariants.{Insn, Slot}
use Rattle.insn_codec.specs.declared.width.Width.TheVariants.{W64}
use Rattle.assembler.specs.Items.{HasLine, label, slots_of, statement}
use Rattle.assembler.specs.Reading.{ReadsLine, says}
use Rattle.assembler.specs.Source.{EachSays}

-- names of labels with the first and the last of the bytes allowed, and with the bytes beside them
pub record SourceLabelsHold : Type 0 where
  pub letters : HasLine (label (codes "azAZ"))
  pub one_small_letter : HasLine (label (codes "a"))
  pub last_small_letter : HasLine (label (codes "z"))
  pub one_capital : HasLine (label (codes "A"))
  pub last_capital : HasLine (label (codes "Z"))
  pub underscore : HasLine (label (codes "_"))
  pub digits : HasLine (label (codes "_09"))
  pub no_name : HasLine (label []) → ⊥
  pub from_a_digit : HasLine (label (codes "9a")) → ⊥
  pub from_a_backquote : HasLine (label (codes "`")) → ⊥
  pub from_a_brace : HasLine (label (codes "{")) → ⊥
  pub from_an_at : HasLine (label (codes "@")) → ⊥
  pub from_a_bracket : HasLine (label (codes "[")) → ⊥
  pub from_a_caret : HasLine (label (codes "^")) → ⊥
  pub from_a_space : HasLine (label (codes " ")) → ⊥
  pub with_a_dash : HasLine (label (codes "a-b")) → ⊥
  pub with_a_slash : HasLine (label (codes "a/b")) → ⊥
  pub with_a_colon : HasLine (label (codes "a:b")) → ⊥

-- lines with their items: the text is that of the item, which has a line, with its numbers in range
pub record LineRowsHold : Type 0 where
  pub widest_slot : HasLine (statement (Slot 0xffff_ffff_ffff_ffff))
  pub wider_slot : HasLine (statement (Slot 0x0001_0000_0000_0000_0000)) → ⊥
  pub says_exit : ReadsLine (codes "exit") (says (statement (Insn Exit)))
  pub says_another_line : ReadsLine (codes "exit ") (says (statement (Insn Exit))) → ⊥
  pub says_no_name : ReadsLine (codes "9a:") (says (label (codes "9a"))) → ⊥
  pub says_a_wide_number : ReadsLine (codes "mov64 r0, 2147483648") (says (statement (Insn (Alu Mov W64 R0 (Imm (pos 2147483648)))))) → ⊥
  pub each_says : EachSays (codes "exit" ∷ codes "a:" ∷ []) (statement (Insn Exit) ∷ label (codes "a") ∷ [])
  pub first_says_another : EachSays (codes "exit " ∷ codes "a:" ∷ []) (statement (Insn Exit) ∷ label (codes "a") ∷ []) → ⊥
  pub last_says_another : EachSays (codes "exit" ∷ codes "b:" ∷ []) (statement (Insn Exit) ∷ label (codes "a") ∷ []) → ⊥
  pub one_says_nothing : EachSays (codes "exit" ∷ codes "a:" ∷ []) (statement (Insn Exit) ∷ []) → ⊥
  pub one_is_missing : EachSays (codes "exit" ∷ []) (statement (Insn Exit) ∷ label (codes "a") ∷ []) → ⊥
  -- a wide load has two slots, a label none
  pub no_slots : slots_of [] ≡ 0
  pub four_slots : slots_of (statement (Insn (LoadWide R0 5)) ∷ label (codes "a") ∷ statement (Insn Exit) ∷ statement (Slot 0) ∷ []) ≡ 4
