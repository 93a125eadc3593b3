-- The values of an expression's names (cel-spec, Name Resolution).
use Rattle.std.specs.Prelude.{ℕ, Bool, List, [], ◌∷◌, Option, Some, None, if◌then◌else◌, bytes_eq, codes, unwrap_or}
use Rattle.std.specs.Option.{option_or}
use Rattle.cel_reader.specs.Words.{is_one_of}
use Rattle.value_store.specs.Value.{Value, ValueOrError, error, value}

-- the value of a name by its first binding, if any
abbrev pub lookup : {A : Type 0} → List ℕ → List (List ℕ × A) → Option A
lookup n [] = None
lookup n (b ∷ more) = if bytes_eq b.0 n then Some b.1 else lookup n more

-- the value, or the error if there is none
abbrev pub value_or_error : Option Value → ValueOrError
value_or_error (Some v) = value v
value_or_error None = error

-- the documents that an admission request gives
pub record Roots : Type 0 where
  pub object : Value
  pub old_object : Value
  pub params : Value
  pub namespace_object : Value
  pub request : Value

-- whether a name is one of these documents in expressions (ValidatingAdmissionPolicy v1)
unfoldable pub is_root : List ℕ → Bool
is_root n =
    is_one_of (codes "object" ∷ codes "oldObject" ∷ codes "params" ∷ codes "namespaceObject" ∷ codes "request" ∷ []) n

-- the roots' names with their documents
abbrev pub root_bindings : Roots → List (List ℕ × Value)
root_bindings r =
    (codes "object", r.object) ∷ (codes "oldObject", r.old_object) ∷ (codes "params", r.params) ∷
    (codes "namespaceObject", r.namespace_object) ∷ (codes "request", r.request) ∷ []

-- the roots, the iteration names in scope (innermost first), and the variables, each a value or the error
pub record Environment : Type 0 where
  pub roots : Roots
  pub items : List (List ℕ × Value)
  pub variables : List (List ℕ × ValueOrError)

-- the value of a name: an item, which hides a root of the same name, else a root, else the error (cel-spec, Name Resolution)
unfoldable pub name_value : List ℕ → Environment → ValueOrError
name_value n env = value_or_error (option_or (lookup n env.items) (lookup n (root_bindings env.roots)))

-- the result of `variables.n`; the error if there is no such variable
unfoldable pub variable_value : List ℕ → List (List ℕ × ValueOrError) → ValueOrError
variable_value n variables = unwrap_or (lookup n variables) error

-- the environment inside a macro, in which the iteration name denotes an item
abbrev pub bind : List ℕ → Value → Environment → Environment
bind n v env = record env { items = (n, v) ∷ env.items }
