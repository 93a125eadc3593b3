-- The values of a wide expression's names.
use Rattle.std.specs.Prelude.{ℕ, Bool, false, ◌&&◌, not, List, ◌∷◌, Option, Some, None, bytes_eq, is_some, unwrap_or}
use Rattle.value_store.specs.Value.{Value}
use Rattle.cel_macros.specs.Environment.{Roots, lookup, root_bindings}
use Rattle.cel_macros.specs.Macros.{variables_name}
use Rattle.wide_reader.specs.Tree.{Wide}
use Rattle.wide_reader.specs.Tree as wide
use Rattle.wide_meaning.specs.Outcome.{Outcome, failed, plain}

-- the roots, the iteration names in scope (innermost first), and the variables, which may be optional values
pub record WideEnvironment : Type 0 where
  pub roots : Roots
  pub items : List (List ℕ × Value)
  pub variables : List (List ℕ × Outcome)

-- a value that may be missing; the error if it is
abbrev pub plain_or_failed : Option Value → Outcome
plain_or_failed (Some v) = plain v
plain_or_failed None = failed

-- a root; the error for any other name
abbrev pub root_in : List ℕ → Roots → Outcome
root_in n roots = plain_or_failed (lookup n (root_bindings roots))

-- an item, or what the name denotes outside of macros
abbrev pub item_or : Option Value → Outcome → Outcome
item_or (Some v) outside = plain v
item_or None outside = outside

-- an iteration name, which hides a root; a root; the error for any other name
abbrev pub name_in : List ℕ → WideEnvironment → Outcome
name_in n env = item_or (lookup n env.items) (root_in n env.roots)

-- the variable of this name; the error if there is none
abbrev pub variable_in : List ℕ → List (List ℕ × Outcome) → Outcome
variable_in n variables = unwrap_or (lookup n variables) failed

-- the environment inside a macro, in which the iteration name denotes an item
abbrev pub bound : List ℕ → Value → WideEnvironment → WideEnvironment
bound n v env = record env { items = (n, v) ∷ env.items }

-- whether the expression is the name `variables`, which no iteration name hides: with a dot before it, or none is in
-- scope
abbrev pub denotes_variables : Wide → Bool → Bool
denotes_variables (wide.name n) hidden = bytes_eq variables_name n && not hidden
denotes_variables (wide.root n) hidden = bytes_eq variables_name n
denotes_variables _ hidden = false

-- whether an iteration name hides `variables`
abbrev pub hides_variables : List (List ℕ × Value) → Bool
hides_variables items = is_some (lookup variables_name items)
