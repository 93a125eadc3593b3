-- Names: of items, which are in words of the frame, and of the roots, which have their own references.
-- Emitted by `tree_code/src/code/names.rt`; laws in `Gives/Leaves`, proofs in `proofs/Leaves`.
use Rattle.std.specs.Prelude.{ℕ, ℤ, pos, List, [], ◌∷◌, Option, Some, None, codes}
use Rattle.insn_codec.specs.declared.insn.Insn.{Insn}
use Rattle.cel_macros.specs.Environment.{lookup}
use Rattle.expression_code.specs.Code.Leaves.{leaf_code}
use Rattle.expression_code.specs.declared.simple_operand.SimpleOperand.{SimpleOperand, TheVariants.Reference, TheVariants.Word}

-- the references of the roots
abbrev pub root_references : List (List ℕ × ℤ)
root_references =
    (codes "object", pos 4) ∷ (codes "oldObject", pos 5) ∷ (codes "params", pos 6) ∷ (codes "namespaceObject", pos 7)
    ∷ (codes "request", pos 8) ∷ []

-- the reference, or the error's if there is none
abbrev pub reference_or_error : Option ℤ → ℤ
reference_or_error (Some r) = r
reference_or_error None = pos 0

-- the reference of the root with this name, or the error's if there is none
unfoldable pub root_reference : List ℕ → ℤ
root_reference n = reference_or_error (lookup n root_references)

-- an iteration name hides a root
abbrev pub held_leaf : Option ℕ → ℤ → SimpleOperand
held_leaf (Some k) r = Word k
held_leaf None r = Reference r

-- the operand for a name: the item in its word of the frame if there is one, else the root with this name
abbrev pub name_leaf : List ℕ → List (List ℕ × ℕ) → SimpleOperand
name_leaf n words = held_leaf (lookup n words) (root_reference n)

abbrev pub name_code : List ℕ → List (List ℕ × ℕ) → List Insn
name_code n words = leaf_code (name_leaf n words)
