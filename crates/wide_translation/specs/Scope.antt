-- The names that an expression may use, with their kinds.
use Rattle.std.specs.Prelude.{ℕ, Bool, true, false, List, [], ◌∷◌, is_some}
use Rattle.cel_macros.specs.Environment.{lookup}
use Rattle.cel_macros.specs.Macros.{variables_name}
use Rattle.wide_kinds.specs.declared.kind.Kind.{Kind}
use Rattle.wide_kinds.specs.declared.kind.ValueKind.{ValueKind}

-- What an iteration name is written as: itself, or the name that stands for it, and the kind of its value; the item i of
-- the pair of another name; nothing, if it may not be used
pub data Place : Type 0 where
  itself : ValueKind → Place
  part : List ℕ → ℕ → Place
  unused : Place

-- whether the root `params` has tables beside the parameters, whether the expression is a match condition, in which
-- `namespaceObject` is null, the variables in scope, and the iteration names in scope, innermost first
pub record WideScope : Type 0 where
  pub wrapped : Bool
  pub condition : Bool
  pub variables : List (List ℕ × Kind)
  pub names : List (List ℕ × Place)

-- the scope with one more iteration name
abbrev pub enclosed : List ℕ → Place → WideScope → WideScope
enclosed x p s = record s { names = (x, p) ∷ s.names }

-- the scope inside a macro with the iteration name x
abbrev pub within : List ℕ → ValueKind → WideScope → WideScope
within x k s = enclosed x (itself k) s

-- whether an iteration name hides `variables`
abbrev pub is_hidden : WideScope → Bool
is_hidden s = is_some (lookup variables_name s.names)

-- the scope outside of macros
abbrev pub scope_of : Bool → List (List ℕ × Kind) → WideScope
scope_of wrapped variables = record { wrapped = wrapped; condition = false; variables = variables; names = [] }

-- the scope of a match condition outside of macros: it may use no variable
abbrev pub condition_scope : Bool → WideScope
condition_scope wrapped = record { wrapped = wrapped; condition = true; variables = []; names = [] }
