-- Sources worked out by hand: the items of their lines, numbers in and out of range, and the targets of labels.
use Rattle.std.specs.Prelude.{◌≡◌, ℤ, pos, negsuc, true, false, List, [], ◌∷◌, Some, Ok, Err, codes}
use Rattle.insn_codec.specs.declared.alu_op.AluOp.TheVariants.{Mov}
use Rattle.insn_codec.specs.declared.comparison.Comparison.TheVariants.{Eq}
use Rattle.insn_codec.specs.declared.insn.Insn.TheVariants.{Alu, Exit, LoadWide}
use Rattle.insn_codec.specs.declared.operand.Operand.TheVariants.{Imm}
use Rattle.insn_codec.specs.declared.register.Register.TheVariants.{R0}
use Rattle.insn_codec.specs.declared.statement.Statement.TheVariants.{Insn}
use Rattle.insn_codec.specs.declared.width.Width.TheVariants.{W64}
use Rattle.assembler.specs.Cutting.{lines_of}
use Rattle.assembler.specs.Items.{HasLine, InRange, SourceItem, statement, label, jump}
use Rattle.assembler.specs.Jumps.{reaches}
use Rattle.assembler.specs.Labels.{IsFree, label_slot}
use Rattle.assembler.specs.SecondPass.{code_bytes}
use Rattle.assembler.specs.Source.{EachSays}
use Rattle.assembler.specs.declared.asm_error.AsmError.TheVariants.{JumpTooFar, UnknownLabel}
use Rattle.assembler.specs.declared.lines.jump.Jump.TheVariants.{Near, Long, CallLocal, Branch}

-- mov64 r0, a number
abbrev pub move_of : ℤ → SourceItem
move_of n = statement (Insn (Alu Mov W64 R0 (Imm n)))

-- a jump forward over an exit
abbrev pub forward : List SourceItem
forward = jump Near (codes "end") ∷ statement (Insn Exit) ∷ label (codes "end") ∷ statement (Insn Exit) ∷ []

-- jumps back over a wide load: a long jump, a call and a branch
abbrev pub back : List SourceItem
back =
    label (codes "a") ∷ statement (Insn (LoadWide R0 5)) ∷ jump Long (codes "a") ∷ jump CallLocal (codes "a")
    ∷ jump (Branch Eq W64 R0 (Imm (pos 0))) (codes "a") ∷ []

-- sources with their items, code, numbers and labels
pub record SourceRowsHold : Type 0 where
  pub forward_lines : EachSays (lines_of (codes "ja end\nexit\nend:\nexit\n")) forward
  pub forward_code : code_bytes (label_slot forward) 1 0 forward
      ≡ Ok (0x05 ∷ 0 ∷ 1 ∷ 0 ∷ 0 ∷ 0 ∷ 0 ∷ 0 ∷ 0x95 ∷ 0 ∷ 0 ∷ 0 ∷ 0 ∷ 0 ∷ 0 ∷ 0 ∷ 0x95 ∷ 0 ∷ 0 ∷ 0 ∷ 0 ∷ 0 ∷ 0 ∷ 0 ∷ [])
  -- the last line may lack a line feed
  pub back_lines : EachSays
      (lines_of (codes "a:\nlddw r0, 0x0000000000000005\nja32 a\ncall_local a\njeq64 r0, 0, a"))
      back
  -- from slot 3 to 0, from slot 4 to 0 and from slot 5 to 0
  pub back_code : code_bytes (label_slot back) 1 0 back
      ≡ Ok (0x18 ∷ 0 ∷ 0 ∷ 0 ∷ 5 ∷ 0 ∷ 0 ∷ 0 ∷ 0 ∷ 0 ∷ 0 ∷ 0 ∷ 0 ∷ 0 ∷ 0 ∷ 0 ∷ 0x06 ∷ 0 ∷ 0 ∷ 0 ∷ 0xfd ∷ 0xff ∷ 0xff ∷ 0xff
      ∷ 0x85 ∷ 0x10 ∷ 0 ∷ 0 ∷ 0xfc ∷ 0xff ∷ 0xff ∷ 0xff ∷ 0x15 ∷ 0 ∷ 0xfb ∷ 0xff ∷ 0 ∷ 0 ∷ 0 ∷ 0 ∷ [])
  -- `mov64 r0, 4294967296` has a line, but its number is out of range
  pub wide_has_line : HasLine (move_of (pos 4294967296))
  -- `lddw` has a number of 64 bits
  pub widest_has_line : HasLine (statement (Insn (LoadWide R0 0xffff_ffff_ffff_ffff)))
  pub wider_has_none : HasLine (statement (Insn (LoadWide R0 0x1_0000_0000_0000_0000))) → ⊥
  pub wide_is_out : InRange (move_of (pos 4294967296)) → ⊥
  pub past_the_greatest : InRange (move_of (pos 2147483648)) → ⊥
  pub greatest : InRange (move_of (pos 2147483647))
  pub least : InRange (move_of (negsuc 2147483647))
  pub past_the_least : InRange (move_of (negsuc 2147483648)) → ⊥
  pub branch_out : InRange (jump (Branch Eq W64 R0 (Imm (pos 2147483648))) (codes "a")) → ⊥
  -- a label is defined once
  pub named_twice : IsFree (label (codes "a") ∷ []) (label (codes "a")) → ⊥
  pub named_once : IsFree (label (codes "a") ∷ []) (label (codes "b"))
  -- `ja away` without that label, and a label that is too far away
  pub unknown : code_bytes (label_slot (jump Near (codes "away") ∷ [])) 1 0 (jump Near (codes "away") ∷ []) ≡ Err (UnknownLabel 1)
  pub too_far_for_code : code_bytes (λ name. Some 32769) 1 0 (jump Near (codes "a") ∷ []) ≡ Err (JumpTooFar 1)
  pub far_enough_for_code : code_bytes (λ name. Some 32768) 1 0 (jump Near (codes "a") ∷ [])
      ≡ Ok (0x05 ∷ 0 ∷ 0xff ∷ 0x7f ∷ 0 ∷ 0 ∷ 0 ∷ 0 ∷ [])
  pub farthest : reaches Near (pos 32767) ≡ true
  pub too_far : reaches Near (pos 32768) ≡ false
  pub farthest_back : reaches Near (negsuc 32767) ≡ true
  pub too_far_back : reaches Near (negsuc 32768) ≡ false
  pub branch_too_far : reaches (Branch Eq W64 R0 (Imm (pos 0))) (pos 32768) ≡ false
  pub long_reaches : reaches Long (pos 32768) ≡ true
  pub call_reaches : reaches CallLocal (negsuc 32768) ≡ true
