-- A path whose value word 0 of the frame keeps.
-- Used by `tree_code/src/code/paths.rt`; proofs in `proofs/Paths`.
use Rattle.std.specs.Prelude.{◌≡◌, ℕ, ◌+◌, List, ◌∷◌, ◌++◌, length, Some}
use Rattle.insn_codec.specs.declared.insn.Insn.{Insn}
use Rattle.insn_codec.specs.declared.register.Register.TheVariants.{R0, R1}
use Rattle.value_store.specs.Value.{ValueOrError}
use Rattle.cel_macros.specs.Environment.{Environment}
use Rattle.expression_code.specs.Code.Leaves.{leaf_insn}
use Rattle.expression_code.specs.Code.Names.{root_reference}
use Rattle.expression_code.specs.Code.Selection.{field_tail}
use Rattle.expression_code.specs.Contexts.{Context, Evaluates}
use Rattle.expression_code.specs.Engine.{RunContext}
use Rattle.expression_code.specs.Gives.Selection.{HasText}
use Rattle.expression_code.specs.Instructions.{store}
use Rattle.expression_code.specs.Operators.{IsLeafOf}
use Rattle.expression_code.specs.Paths.{FrameUse, RootField, path_value, nothing_kept, with_path}
use Rattle.expression_code.specs.declared.simple_operand.SimpleOperand.TheVariants.{Reference, Word}

-- the value of a path in a context
abbrev pub path_in : RootField → Context → ValueOrError
path_in path c = path_value path c.environment.roots c.environment.items

-- stores the path's value in word 0, where the following code finds it; this is the address of the field's text
abbrev pub kept_path_code : RootField → ℕ → List Insn → List Insn
kept_path_code path address rest =
    leaf_insn (Reference (root_reference path.root)) R1 ∷ (field_tail address (length path.field) ++ store 0 R0 ∷ rest)

-- a context outside all macros, where word 0 keeps a path or nothing
abbrev pub outside : Environment → List ℕ → FrameUse → Context
outside environment constants words = record { environment = environment; words = words; constants = constants }

-- the results of a kept path
pub record PathsGive : Type 0 where
  -- its word holds its value or the error
  pub names : (c : Context) (depth base : ℕ) (path : RootField) → c.words.path ≡ Some path
      → IsLeafOf c depth base (Some (Word 0)) (path_in path c)
  -- code after the path's own code and a store can use the value in word 0; afterwards the word is free again
  pub kept : (s : RunContext) (p depth address : ℕ) (path : RootField) (rest : List Insn) (environment : Environment) (constants : List ℕ)
      (x : ValueOrError) (n m : ℕ)
      → HasText constants address path.field
      → Evaluates s (p + 6) rest (outside environment constants (with_path path)) depth 1 x n m
      → Evaluates s p (kept_path_code path address rest) (outside environment constants nothing_kept) depth 0 x (6 + n) (1 + m)
