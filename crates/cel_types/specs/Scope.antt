-- The names that an expression may use.
use Rattle.std.specs.Prelude.{ℕ, Bool, ◌||◌, List, ◌∷◌, if◌then◌else◌, bytes_eq}
use Rattle.std.specs.Option.{option_map_or}
use Rattle.std.specs.List.{list_any}
use Rattle.cel_macros.specs.Environment.{lookup, is_root}
use Rattle.cel_macros.specs.Macros.{variables_name}
use Rattle.cel_types.specs.declared.cel_type.CelType.{CelType}
use Rattle.cel_types.specs.declared.cel_type.CelType.TheVariants as type
use Rattle.cel_types.specs.Types.{Typing, typed, refused, UnknownName, MisplacedVariables}

-- the iteration names, and the variables that may be used, with their types
pub record Scope : Type 0 where
  pub items : List (List ℕ)
  pub variables : List (List ℕ × CelType)

-- whether a name is known: it is a root or one of the iteration names
abbrev pub is_known : List ℕ → List (List ℕ) → Bool
is_known n items = is_root n || list_any (bytes_eq n) items

-- the type of a name: Dyn if it is known; a fault for `variables` alone and for an unknown name
unfoldable pub name_type : List ℕ → List (List ℕ) → Typing
name_type n items =
    if bytes_eq variables_name n then refused MisplacedVariables
    else (if is_known n items then typed type.Dyn
    else refused UnknownName)

-- the type of `variables.n`: that of variable n, if it may be used, else the fault of `variables`
unfoldable pub variable_type : List ℕ → List (List ℕ × CelType) → Typing
variable_type n variables = option_map_or typed (lookup n variables) (refused MisplacedVariables)

-- the scope inside a macro with the iteration name n
abbrev pub within : List ℕ → Scope → Scope
within n s = record s { items = n ∷ s.items }
