-- Simple operands: values that one instruction loads into a register.
-- The code's `SimpleOperand` (`src/simple_operand.rt`); laws in `Gives/Leaves`, proofs in `proofs/Leaves`.
use Rattle.std.specs.Prelude.{ℕ, ◌<◌, List, [], ◌∷◌}
use Rattle.insn_codec.specs.declared.insn.Insn.{Insn}
use Rattle.insn_codec.specs.declared.register.Register.{Register, TheVariants.R0}
use Rattle.expression_code.specs.Limits.{frame_words}
use Rattle.expression_code.specs.Instructions.{load, mov_imm}
use Rattle.expression_code.specs.declared.simple_operand.SimpleOperand.{SimpleOperand, TheVariants.Reference, TheVariants.Word}

-- loads the simple operand into a register
abbrev pub leaf_insn : SimpleOperand → Register → Insn
leaf_insn (Reference n) r = mov_imm r n
leaf_insn (Word k) r = load r k

-- the word of the frame that it uses, or 0
abbrev pub word_of : SimpleOperand → ℕ
word_of (Reference n) = 0
word_of (Word k) = k

-- the word is one of a frame
abbrev pub IsFrameWord : SimpleOperand → Type 0
IsFrameWord l = word_of l < frame_words

-- an expression that is a simple operand
abbrev pub leaf_code : SimpleOperand → List Insn
leaf_code l = leaf_insn l R0 ∷ []
