-- When trees carry an outcome, and when an environment represents that of a wide expression.
use Rattle.std.specs.Prelude.{◌≡◌, ℕ, ◌<◌, true, false, List, length, Option, Some, None, ⊤}
use Rattle.cel_reader.specs.Tree.{Tree}
use Rattle.value_store.specs.Value.{Value, ValueOrError, error, value, boolean, list, no_items, item}
use Rattle.cel_macros.specs.Environment.{Environment, lookup, is_root, name_value, variable_value}
use Rattle.cel_macros.specs.Macros.{is_variables}
use Rattle.cel_macros.specs.Meaning.{meaning}
use Rattle.wide_meaning.specs.Outcome.{Outcome, absent, present, plain_part}
use Rattle.wide_meaning.specs.Environment.{WideEnvironment, root_in}
use Rattle.wide_kinds.specs.declared.kind.Kind.{Kind}
use Rattle.wide_kinds.specs.declared.kind.Kind.TheVariants as kinds
use Rattle.wide_kinds.specs.declared.kind.ValueKind.{ValueKind}
use Rattle.wide_kinds.specs.Fitting.{has_kind, IsOfKind, IsOptionalOf}
use Rattle.wide_translation.specs.Carried.{Carried, plain, guarded, listed, Translation, taken, refused}
use Rattle.wide_translation.specs.Forms.{root_tree, part_tree}
use Rattle.wide_translation.specs.Names.{pair_name, is_taken, written_name}
use Rattle.wide_translation.specs.Scope.{WideScope, Place, itself, part, unused}

-- ---- parts of an optional value

-- whether it has a value
abbrev pub guard_part : Outcome → ValueOrError
guard_part absent = value (boolean false)
guard_part (present v) = value (boolean true)
guard_part _ = error

-- its value
abbrev pub value_part : Outcome → ValueOrError
value_part (present v) = value v
value_part _ = error

-- the list of its value, or the empty list
abbrev pub list_part : Outcome → ValueOrError
list_part absent = value (list no_items)
list_part (present v) = value (list (item v no_items))
list_part _ = error

-- ---- trees

-- a tree means the value, or the error
pub record IsPlain (k : ValueKind) (t : Tree) (o : Outcome) (env : Environment) : Type 0 where
  pub means : meaning t env ≡ plain_part o
  pub kind : IsOfKind k o
  pub free : is_variables t ≡ false

-- a guard tells whether there is a value. The value is the error if there is none
pub record IsGuarded (k : ValueKind) (g v : Tree) (o : Outcome) (env : Environment) : Type 0 where
  pub guard : meaning g env ≡ guard_part o
  pub value : meaning v env ≡ value_part o
  pub kind : IsOptionalOf k o
  pub free : is_variables v ≡ false
  pub guard_free : is_variables g ≡ false

-- a tree means the list of the value, the empty list, or the error
pub record IsListed (k : ValueKind) (l : Tree) (o : Outcome) (env : Environment) : Type 0 where
  pub list : meaning l env ≡ list_part o
  pub kind : IsOptionalOf k o

-- the trees carry the outcome
abbrev pub Carries : Carried → Outcome → Environment → Type 0
Carries (plain k t) o env = IsPlain k t o env
Carries (guarded k g v) o env = IsGuarded k g v o env
Carries (listed k l) o env = IsListed k l o env

-- a translation, if there is one, carries the outcome
abbrev pub WideHolds : Translation → Outcome → Environment → Type 0
WideHolds (taken c) o env = Carries c o env
WideHolds (refused e) o env = ⊤

-- ---- environments

-- a name in scope has its value in the second environment, where it is written
abbrev pub WideNamed : List ℕ → Option Place → Option Value → Environment → Type 0
WideNamed n (Some (itself k)) (Some v) env = (name_value (written_name n) env ≡ value v) × (has_kind k v ≡ true)
WideNamed n (Some (part y i)) (Some v) env = meaning (part_tree y i) env ≡ value v
WideNamed n (Some unused) (Some v) env = ⊤
WideNamed n None None env = ⊤
WideNamed n _ _ env = ⊥

-- a name in scope is none of those that the translation binds inside of m iteration names: a pair is that of fewer
abbrev pub IsApart : List ℕ → Option Place → ℕ → Type 0
IsApart n (Some (part y i)) m = (d : ℕ) × (y ≡ pair_name d) × (d < m)
IsApart n (Some p) m = is_taken n ≡ false
IsApart n None m = ⊤

-- a variable has its value in the second environment, an optional one as a list
abbrev pub Declared : Option Kind → Option Outcome → ValueOrError → Type 0
Declared (Some (kinds.Value k)) (Some o) x = (x ≡ plain_part o) × IsOfKind k o
Declared (Some (kinds.Optional k)) (Some o) x = (x ≡ list_part o) × IsOptionalOf k o
Declared (Some k) None x = ⊥
Declared None o x = ⊤

-- the second environment has the values of the names of the first
pub record WideStandsFor (s : WideScope) (env : WideEnvironment) (env' : Environment) : Type 0 where
  pub named : (n : List ℕ) → WideNamed n (lookup n s.names) (lookup n env.items) env'
  pub rooted : (n : List ℕ) → is_root n ≡ true → meaning (root_tree s n) env' ≡ plain_part (root_in n env.roots)
  pub declared : (n : List ℕ) → Declared (lookup n s.variables) (lookup n env.variables) (variable_value n env'.variables)
  pub apart : (n : List ℕ) → IsApart n (lookup n s.names) (length s.names)
