-- The state of an emitter after an expression or a variable is added.
use Rattle.std.specs.Prelude.{◌≡◌, ℕ, ◌+◌, Bool, ◌&&◌, nat_le, if◌then◌else◌, List, [], ◌∷◌, ◌++◌, length, take}
use Rattle.expression_code.specs.Limits.{code_limit, node_limit}
use Rattle.insn_codec.specs.declared.insn.Insn.{Insn}
use Rattle.cel_macros.specs.CoreTree.{Core}
use Rattle.cel_measures.specs.Measures.{nodes}
use Rattle.cel_types.specs.Declarations.{Declaration}
use Rattle.expression_code.specs.Variables.{memo_tail}
use Rattle.tree_code.specs.Code.Expressions.{texts_of}
use Rattle.tree_code.specs.Code.Whole.{whole_code}
pub use Rattle.tree_code.specs.Code.Whole.{passed}
use Rattle.tree_code.specs.Constants.{with_texts}
use Rattle.codegen.specs.Emitted.{Emitted, with_nodes, with_piece, without_code}
use Rattle.tree_code.specs.NameTable.{routines_of}
use Rattle.codegen.specs.declared.emitter.Addition.{Addition, TheVariants.Expression, TheVariants.Variable}

-- there is room for code: an image has slots for 512 nodes, 128 for each, and calls in the new code reach all
-- routines by offsets of 32 bits
abbrev pub has_room : Emitted → Bool
has_room e = nat_le e.nodes node_limit && nat_le (length e.code) code_limit

-- an expression's code at a slot, from the start of a frame
abbrev pub code_at : Emitted → List Declaration → Core → ℕ → List Insn
code_at e scope tree p = whole_code tree e.constants (routines_of scope e.routines) p

-- the expression's texts, each once, and n nodes are added
abbrev pub with_counted : Emitted → Core → ℕ → Emitted
with_counted e tree n = record (with_nodes e n) { constants = with_texts e.constants (texts_of tree) }

-- the expression's code is appended, or left out if there is no room; its texts and nodes are already counted
abbrev pub with_code : Emitted → List Declaration → Core → Emitted
with_code e scope tree = if has_room e then with_piece e (code_at e scope tree (length e.code)) else without_code e

-- an expression is added: its texts and nodes, then its code
abbrev pub with_expression : Emitted → List Declaration → Core → Emitted
with_expression e scope tree = with_code (with_counted e tree (nodes tree)) scope tree

-- the routine of the next variable is appended after a jump over it, or left out if there is no room; texts and nodes
-- are already counted
abbrev pub with_routine : Emitted → List Declaration → Core → Emitted
with_routine e scope tree =
    if has_room e
    then record (with_piece e (passed (code_at e scope tree (length e.code + 1) ++ memo_tail (length e.routines))))
    { routines = e.routines ++ (length e.code + 1) ∷ [] }
    else without_code e

-- a variable is added: its texts, its nodes and one more, then its routine
abbrev pub with_variable : Emitted → List Declaration → Core → Emitted
with_variable e scope tree = with_routine (with_counted e tree (1 + nodes tree)) scope tree

-- an expression is added in this way
abbrev pub with_addition : Addition → Emitted → List Declaration → Core → Emitted
with_addition Expression = with_expression
with_addition Variable = with_variable

-- the old emitter with further texts and routine slots, and with another number of nodes
abbrev pub IsBehind : Emitted → Emitted → Type 0
IsBehind old new =
    record new
    { constants = take (length old.constants) new.constants; nodes = old.nodes; routines = take (length old.routines) new.routines }
    ≡ old
