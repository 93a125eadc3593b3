-- Loads operands into registers.
-- Emitted by `tree_code/src/code/calls.rt`; laws in `Operators`, proofs in `proofs/Loaded` and `proofs/Operators`.
use Rattle.std.specs.Prelude.{ℕ, ◌+◌, List, [], ◌∷◌, ◌++◌, Option, Some, None}
use Rattle.insn_codec.specs.declared.insn.Insn.{Insn}
use Rattle.insn_codec.specs.declared.register.Register.{Register, TheVariants.R0}
use Rattle.expression_code.specs.Code.Leaves.{leaf_insn}
use Rattle.expression_code.specs.Instructions.{mov_reg, store}
use Rattle.expression_code.specs.Pieces.{size}
use Rattle.expression_code.specs.declared.simple_operand.SimpleOperand.{SimpleOperand, TheVariants.Word}

-- loads an operand into a register: a simple operand by one instruction; any other by its code, which leaves it in R0
abbrev pub operand_code : Option SimpleOperand → List Insn → Register → List Insn
operand_code (Some l) code r = leaf_insn l r ∷ []
operand_code None code r = code ++ mov_reg r R0 ∷ []

-- evaluates a left operand before the right one: a simple operand is loaded later, any other is stored in word k
abbrev pub kept_code : Option SimpleOperand → List Insn → ℕ → List Insn
kept_code (Some l) code k = []
kept_code None code k = code ++ store k R0 ∷ []

-- the number of slots of `kept_code`
abbrev pub kept_size : Option SimpleOperand → List Insn → ℕ
kept_size (Some l) code = 0
kept_size None code = size code + 1

-- the left operand after the right one was evaluated
abbrev pub kept_leaf : Option SimpleOperand → ℕ → SimpleOperand
kept_leaf (Some l) k = l
kept_leaf None k = Word k

-- loads two operands into registers r and q; a right one that is a simple operand needs no word of the frame
abbrev pub operands_code : Option SimpleOperand → List Insn → Option SimpleOperand → List Insn → ℕ → Register → Register → List Insn
operands_code l left (Some m) right k r q = operand_code l left r ++ leaf_insn m q ∷ []
operands_code l left None right k r q = kept_code l left k ++ (right ++ mov_reg q R0 ∷ leaf_insn (kept_leaf l k) r ∷ [])
