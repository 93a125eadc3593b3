-- The value of an accepted expression has the expression's type, or is the error.
use Rattle.std.specs.Prelude.{◌≡◌, ℕ, List, Bool, true, ◌||◌, ⊤}
use Rattle.cel_reader.specs.Tree.{Tree}
use Rattle.value_store.specs.Value.{Value, null, boolean, int, text, list, map, ValueOrError, error, value}
use Rattle.cel_types.specs.declared.cel_type.CelType.{CelType}
use Rattle.cel_types.specs.declared.cel_type.CelType.TheVariants as type
use Rattle.cel_macros.specs.Environment.{Environment, variable_value}
use Rattle.cel_macros.specs.Meaning.{meaning}
use Rattle.cel_types.specs.Types.{Typing, typed, refused, same_type}
use Rattle.cel_types.specs.Scope.{Scope, variable_type}
use Rattle.cel_types.specs.Typing.{typing}

-- the type of a value
abbrev pub type_of : Value → CelType
type_of null = type.Null
type_of (boolean b) = type.Bool
type_of (int z) = type.Int
type_of (text s) = type.String
type_of (list is) = type.List
type_of (map es) = type.Map

-- whether a value has this type; every value has type Dyn
abbrev pub fits_type : CelType → Value → Bool
fits_type t v = same_type t type.Dyn || same_type t (type_of v)

-- the error has every type, and a value its own; nothing is stated for an expression with a fault
abbrev pub FitsType : Typing → ValueOrError → Type 0
FitsType (typed t) error = ⊤
FitsType (typed t) (value v) = fits_type t v ≡ true
FitsType (refused y) x = ⊤

-- each variable that may be used has its type or is the error
abbrev pub FitsScope : Scope → Environment → Type 0
FitsScope s env = (v : List ℕ) → FitsType (variable_type v s.variables) (variable_value v env.variables)

-- if the variables have their types, the value of an expression has its type or is the error
abbrev pub IsSound : Type 0
IsSound = (e : Tree) (s : Scope) (env : Environment) → FitsScope s env → FitsType (typing e s) (meaning e env)
