-- Literals: null, truths, ints and texts.
-- Emitted by `tree_code/src/code/literals.rt`; laws in `Gives/Leaves`, proofs in `proofs/Leaves`.
use Rattle.std.specs.Prelude.{ℕ, ℤ, pos, Bool, true, false, List, [], ◌∷◌}
use Rattle.std.specs.Int.{w64, cast_unsigned}
use Rattle.insn_codec.specs.declared.insn.Insn.{Insn, TheVariants.Call}
use Rattle.insn_codec.specs.declared.register.Register.TheVariants.{R1, R2}
use Rattle.expression_code.specs.Code.Leaves.{leaf_code}
use Rattle.expression_code.specs.Instructions.{lddw, put_length}
use Rattle.expression_code.specs.declared.simple_operand.SimpleOperand.{SimpleOperand, TheVariants.Reference}

-- null, by its reference
abbrev pub null_leaf : SimpleOperand
null_leaf = Reference (pos 1)

abbrev pub null_code : List Insn
null_code = leaf_code null_leaf

-- a truth, by its reference
abbrev pub truth_leaf : Bool → SimpleOperand
truth_leaf false = Reference (pos 2)
truth_leaf true = Reference (pos 3)

abbrev pub truth_code : Bool → List Insn
truth_code b = leaf_code (truth_leaf b)

-- an int, by its word in two's complement
abbrev pub int_code : ℤ → List Insn
int_code z = lddw R1 (cast_unsigned w64 z) ∷ Call (pos 3) ∷ []

-- a text with this address among the constants and this number of bytes
abbrev pub text_code : ℕ → ℕ → List Insn
text_code address count = lddw R1 address ∷ put_length R2 count ∷ Call (pos 4) ∷ []
