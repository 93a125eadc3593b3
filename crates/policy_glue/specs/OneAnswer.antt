-- Compilation has one result: one image, or one refusal.
use Rattle.std.specs.Prelude.{◌≡◌, ℕ, false, List, Result}
use Rattle.cel_reader.specs.Tree.{Tree}
use Rattle.cel_types.specs.Declarations.{Declaration}
use Rattle.cel_types.specs.declared.cel_type.CelType.{CelType}
use Rattle.loader.specs.Contents as loader
use Rattle.cel_types.specs.Types.{allowed}
use Rattle.policy_glue.specs.Checking.{IsOneOf, IsTaken, expression_judged}
use Rattle.policy_glue.specs.Limits.{Compiles}
use Rattle.policy_glue.specs.OneImage.{OneImage}
use Rattle.verdicts.specs.Policy.{Policy}
use Rattle.policy_code.specs.Trees.{PolicyTree}
use Rattle.policy_glue.specs.declared.compile_error.CompileError.{CompileError}

-- two results for a policy are the same trees or the same refusal
abbrev pub CompileHasOneResult : Type 0
CompileHasOneResult = (p : Policy) (a b : Result PolicyTree CompileError) → Compiles p a → Compiles p b → a ≡ b

-- two images of a policy are the same
abbrev pub HasOneImage : Type 0
HasOneImage = (p : Policy) (a b : loader.Image) → OneImage p a → OneImage p b → a ≡ b

-- the text parses as a tree of another type
pub record HasOtherType (types : List CelType) (scope : List Declaration) (text : List ℕ) : Type 0 where
  pub tree : Tree
  pub cel_type : CelType
  pub taken : IsTaken (expression_judged scope) text tree cel_type
  pub kind : allowed types cel_type ≡ false

-- an expression that has one of the wanted types has no other type; so the validation `true` is not refused as an int
abbrev pub HasNoOtherType : Type 0
HasNoOtherType =
    (types : List CelType) (scope : List Declaration) (text : List ℕ) (a : Tree) → IsOneOf types scope text a
    → HasOtherType types scope text → ⊥
