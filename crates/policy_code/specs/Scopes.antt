-- The variables that the expressions of a policy may use, with their types and depths.
use Rattle.std.specs.Prelude.{ℕ, List, [], ◌∷◌, ◌++◌, fold}
use Rattle.cel_reader.specs.Tree.{Tree}
use Rattle.cel_macros.specs.CoreTree.{expanded}
use Rattle.cel_types.specs.Declarations.{Declaration, declared, depths_of, scope_of}
use Rattle.cel_types.specs.Types as typing
use Rattle.cel_types.specs.Types.{Typing}
use Rattle.cel_types.specs.Typing.{typing as type_of}
use Rattle.cel_types.specs.declared.cel_type.CelType.{CelType}
use Rattle.cel_types.specs.declared.cel_type.CelType.TheVariants as type
use Rattle.cel_measures.specs.Measures.{depth}
use Rattle.policy_code.specs.Trees.{VariableTree}

-- the depth of a variable with this tree, which may use these variables
abbrev pub depth_in : List Declaration → Tree → ℕ
depth_in scope a = depth (expanded a) (depths_of scope)

-- the type if type checking found one, else `dyn`
abbrev pub type_or_any : Typing → CelType
type_or_any (typing.typed t) = t
type_or_any (typing.refused y) = type.Dyn

-- the scope with one more variable, which has the type found for it there
abbrev pub with_variable : List Declaration → VariableTree → List Declaration
with_variable scope v = scope ++ declared v.name (type_or_any (type_of v.expression (scope_of scope))) (depth_in scope v.expression) ∷ []

-- the scope after these variables
abbrev pub scope_after : List VariableTree → List Declaration
scope_after variables = fold with_variable [] variables
