-- What is proved of emitters, and of the code of expressions as lists of instructions.
use Rattle.std.specs.Prelude.{ℕ, List}
use Rattle.insn_codec.specs.declared.insn.Insn.{Insn}
use Rattle.cel_macros.specs.CoreTree.{Core}
use Rattle.cel_types.specs.Declarations.{Declaration}
use Rattle.codegen.specs.Added.{with_expression, with_variable}
use Rattle.codegen.specs.Emitted.{Emitted, IsTooLong, with_insn_at, with_nodes, with_piece}
pub use Rattle.tree_code.specs.Laws.{CodeGives, CodeIsShort, RoutineGives, RoutineIsPassed, TextsStay, TypedIsAccepted, WholeIsShort}

-- an emitter that `finish` refuses with `TooManyNodes` is still refused after each call
pub record TooLongStays : Type 0 where
  pub piece : (e : Emitted) (piece : List Insn) → IsTooLong e → IsTooLong (with_piece e piece)
  pub insn : (e : Emitted) (slot : ℕ) (i : Insn) → IsTooLong e → IsTooLong (with_insn_at e slot i)
  pub nodes : (e : Emitted) (n : ℕ) → IsTooLong e → IsTooLong (with_nodes e n)
  pub expression : (e : Emitted) (declarations : List Declaration) (tree : Core)
      → IsTooLong e → IsTooLong (with_expression e declarations tree)
  pub variable : (e : Emitted) (declarations : List Declaration) (tree : Core)
      → IsTooLong e → IsTooLong (with_variable e declarations tree)
