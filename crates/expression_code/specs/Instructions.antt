-- Short names for the instructions of code. The words of a frame are counted from 0: word k begins 8 * (k + 1) bytes
-- below R10.
use Rattle.std.specs.Prelude.{ℕ, ℤ, pos, negsuc, min}
use Rattle.insn_codec.specs.declared.alu_op.AluOp.{AluOp, TheVariants.Mov}
use Rattle.insn_codec.specs.declared.comparison.Comparison.{Comparison}
use Rattle.insn_codec.specs.declared.insn.Insn.{Insn}
use Rattle.insn_codec.specs.declared.insn.Insn.TheVariants.{Alu, Branch, Jump, Load, LoadWide, Store}
use Rattle.insn_codec.specs.declared.operand.Operand.TheVariants.{Imm, Reg}
use Rattle.insn_codec.specs.declared.register.Register.{Register, TheVariants.R10}
use Rattle.insn_codec.specs.declared.size.Size.TheVariants.{Dw}
use Rattle.insn_codec.specs.declared.width.Width.TheVariants.{W64}
use Rattle.expression_code.specs.Words.{word_offset}

abbrev pub load : Register → ℕ → Insn
load r k = Load Dw r R10 (word_offset k)

abbrev pub store : ℕ → Register → Insn
store k r = Store Dw R10 (word_offset k) r

abbrev pub compute : AluOp → Register → Register → Insn
compute op r s = Alu op W64 r (Reg s)

abbrev pub mov_reg : Register → Register → Insn
mov_reg r s = compute Mov r s

abbrev pub mov_imm : Register → ℤ → Insn
mov_imm r n = Alu Mov W64 r (Imm n)

-- loads the number of bytes of a text, which is a 32-bit immediate for each text in an image
abbrev pub put_length : Register → ℕ → Insn
put_length r n = mov_imm r (pos (min n 0x7fff_ffff))

abbrev pub lddw : Register → ℕ → Insn
lddw r w = LoadWide r w

-- jumps over this number of slots if the comparison of the register and the number holds, or that of two registers
abbrev pub jump_if_imm : Comparison → Register → ℤ → ℕ → Insn
jump_if_imm c r n off = Branch c W64 r (Imm n) (pos off)

abbrev pub jump_if_reg : Comparison → Register → Register → ℕ → Insn
jump_if_reg c r s off = Branch c W64 r (Reg s) (pos off)

abbrev pub ja : ℕ → Insn
ja off = Jump (pos off)

-- jumps back if the comparison of two registers holds; the target is this number of slots before this instruction
abbrev pub back_where : Comparison → Register → Register → ℕ → Insn
back_where c r s off = Branch c W64 r (Reg s) (negsuc off)
