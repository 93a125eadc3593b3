-- The declarations of a scope.
use Rattle.std.specs.Prelude.{ℕ, List, [], map, string_bytes}
use Rattle.cel_types.specs.declared.cel_type.CelType.{CelType}
use Rattle.cel_types.specs.declared.variable.Variable.{Variable}
use Rattle.cel_types.specs.Scope.{Scope}

-- a variable: the bytes of its name, its type and its depth
pub record Declaration : Type 0 where
  pub name : List ℕ
  pub cel_type : CelType
  pub depth : ℕ

-- the variable with this name, type and depth
abbrev pub declared : List ℕ → CelType → ℕ → Declaration
declared n t d = record { name = n; cel_type = t; depth = d }

-- a variable of the code
abbrev pub declaration : Variable → Declaration
declaration v = declared (string_bytes v.name) v.cel_type v.depth

-- the types of the variables, by name
abbrev pub types_of : List Declaration → List (List ℕ × CelType)
types_of ds = map (λ d. (d.name, d.cel_type)) ds

-- the depths of the variables, by name
abbrev pub depths_of : List Declaration → List (List ℕ × ℕ)
depths_of ds = map (λ d. (d.name, d.depth)) ds

-- the scope of an expression that may use these variables
abbrev pub scope_of : List Declaration → Scope
scope_of ds = record { items = []; variables = types_of ds }
