-- The code of literals. The bytes of a text are among the constants of the image.
use Rattle.std.specs.Prelude.{ℕ, ℤ, ◌+◌, ◌∷◌, List, length, Option, Some, None, unwrap_or, option_map}
use Rattle.insn_codec.specs.declared.insn.Insn.{Insn}
use Rattle.insn_codec.specs.declared.register.Register.TheVariants.{R1}
use Rattle.cel_measures.specs.Saturated.{saturated}
use Rattle.cel_reader.specs.Tree as tree
use Rattle.expression_code.specs.Code.Literals.{null_code, null_leaf, truth_code, truth_leaf, int_code, text_code}
use Rattle.expression_code.specs.Code.Leaves.{leaf_insn}
use Rattle.expression_code.specs.Code.Names.{root_reference}
use Rattle.expression_code.specs.Code.Selection.{call_with_text, field_tail}
use Rattle.expression_code.specs.Paths.{RootField}
use Rattle.expression_code.specs.declared.simple_operand.SimpleOperand.{SimpleOperand, TheVariants.Reference}
use Rattle.tree_code.specs.Constants.{place_of}

-- the address of the constants
abbrev pub constants_base : ℕ
constants_base = 0x4_0000_0000

-- the address of a text, which is one of these
abbrev pub address_of : List (List ℕ) → List ℕ → ℕ
address_of texts t = saturated (constants_base + unwrap_or (option_map saturated (place_of t texts)) 0)

-- calls a helper with the value in R1 and one of these texts
abbrev pub call_on_text : ℤ → List (List ℕ) → List ℕ → List Insn
call_on_text helper texts t = call_with_text helper (address_of texts t) (length t)

-- the code of a path: its root, then the field, whose name is one of these texts
abbrev pub path_code : List (List ℕ) → RootField → List Insn
path_code texts path = leaf_insn (Reference (root_reference path.root)) R1 ∷ field_tail (address_of texts path.field) (length path.field)

-- a literal: null and a truth by reference, an int by its word, a text by its address and its length in bytes
abbrev pub literal_code : List (List ℕ) → tree.Literal → List Insn
literal_code texts tree.null = null_code
literal_code texts (tree.truth b) = truth_code b
literal_code texts (tree.int z) = int_code z
literal_code texts (tree.text t) = text_code (address_of texts t) (length t)

-- null and truths are simple operands
abbrev pub literal_leaf : tree.Literal → Option SimpleOperand
literal_leaf tree.null = Some null_leaf
literal_leaf (tree.truth b) = Some (truth_leaf b)
literal_leaf _ = None
