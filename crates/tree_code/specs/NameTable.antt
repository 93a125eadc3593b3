-- The meaning of the names in an expression as the emitter has it, and the code of an expression with it.
use Rattle.std.specs.Prelude.{ℕ, ◌+◌, ◌*◌, ◌≤◌, List, Option, map, string_bytes}
use Rattle.std.specs.List.{zip}
use Rattle.expression_code.specs.Limits.{word_limit, node_limit, slot_reach, part_slots_per_node}
use Rattle.insn_codec.specs.declared.insn.Insn.{Insn}
use Rattle.cel_macros.specs.CoreTree.{Core}
use Rattle.cel_types.specs.Declarations.{Declaration, declaration}
use Rattle.cel_measures.specs.Measures.{need, nodes}
use Rattle.expression_code.specs.Code.Calls.{kept_size}
use Rattle.expression_code.specs.declared.simple_operand.SimpleOperand.{SimpleOperand}
use Rattle.tree_code.specs.declared.emit_position.EmitPosition.{EmitPosition}
use Rattle.tree_code.specs.declared.name_table.NameTable.{NameTable}
use Rattle.tree_code.specs.Code.Expressions.{code_of}
use Rattle.tree_code.specs.FrameWords.{words_of, AreWords}

-- the variables of a scope in order, each with the first slot of its routine
abbrev pub routines_of : List Declaration → List ℕ → List (List ℕ × ℕ)
routines_of declarations slots = zip (map (λ d. d.name) declarations) slots

-- the texts among the constants
abbrev pub texts_within : NameTable → List (List ℕ)
texts_within around = map string_bytes around.texts.now

-- the variables that the expression may use, each with the first slot of its routine
abbrev pub routines_within : NameTable → List (List ℕ × ℕ)
routines_within around = routines_of (map declaration around.variables.now) around.routines.now

-- the code of an expression at a position
abbrev pub piece_of : Core → EmitPosition → List Insn
piece_of e position =
    code_of e (texts_within position.around.now) (routines_within position.around.now)
    (words_of position.words.now) position.word position.slot

-- the position of a right operand after a left one, which is kept if it is not a simple operand
abbrev pub behind_kept : EmitPosition → Option SimpleOperand → List Insn → EmitPosition
behind_kept position leaf left = record position { word = position.word + 1; slot = position.slot + kept_size leaf left }

-- there are enough words of the frame, and the code is short enough for 16-bit jumps in it and 32-bit calls from it
-- to routines
pub record HasFrameRoom (e : Core) (position : EmitPosition) : Type 0 where
  pub held : AreWords (words_of position.words.now)
  pub room : position.word + need e ≤ word_limit
  pub short : nodes e ≤ node_limit
  pub near : position.slot + part_slots_per_node * nodes e ≤ slot_reach
