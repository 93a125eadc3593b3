-- An expression over names that denote values means a value or the error (cel-spec, Values).
use Rattle.std.specs.Prelude.{◌≡◌, ℤ, Some, ⊤, FitsSigned}
use Rattle.std.specs.Int.{w64}
use Rattle.std.specs.List.{AllByRecursion}
use Rattle.std.specs.Str.{IsUtf8}
use Rattle.cel_reader.specs.Tree as tree
use Rattle.cel_reader.specs.Tree.{Tree, Trees, no_trees, more_trees}
use Rattle.cel_reader.specs.Tree.{TreeEntries, no_entries as no_tree_entries, more_entries}
use Rattle.cel_reader.specs.WellFormed.{IsWellFormed}
use Rattle.value_store.specs.Value.{Value, null, boolean, int, text, list, map, Items, no_items, item, Entries, no_entries, entry}
use Rattle.value_store.specs.Value.{ValueOrError, error, value, keys_of}
use Rattle.value_store.specs.Keys.{Ascend}
use Rattle.cel_macros.specs.Environment.{Environment}
use Rattle.cel_macros.specs.Functions.{function_named}
use Rattle.cel_macros.specs.declared.function.Function.{TheVariants.Size}
use Rattle.cel_macros.specs.Meaning.{meaning}

abbrev mutual
  -- a value whose ints satisfy P, whose texts are UTF-8, and whose maps have texts as
  -- keys in byte order without duplicates
  pub IsValue : (ℤ → Type 0) → Value → Type 0
  IsValue P null = ⊤
  IsValue P (boolean b) = ⊤
  IsValue P (int z) = P z
  IsValue P (text s) = IsUtf8 s
  IsValue P (list is) = AreValues P is
  IsValue P (map es) = Ascend (keys_of es) × AreEntryValues P es

  -- each of the items is such a value
  pub AreValues : (ℤ → Type 0) → Items → Type 0
  AreValues P no_items = ⊤
  AreValues P (item v more) = IsValue P v × AreValues P more

  -- each key is a text, and each value is such a value
  pub AreEntryValues : (ℤ → Type 0) → Entries → Type 0
  AreEntryValues P no_entries = ⊤
  AreEntryValues P (entry k v more) = IsUtf8 k × IsValue P v × AreEntryValues P more

-- such a value, or the error
abbrev pub IsValueOrError : (ℤ → Type 0) → ValueOrError → Type 0
IsValueOrError P error = ⊤
IsValueOrError P (value v) = IsValue P v

-- the roots, the items of iteration names and the variables are such values
pub record NamesValues (P : ℤ → Type 0) (env : Environment) : Type 0 where
  pub object : IsValue P env.roots.object
  pub old_object : IsValue P env.roots.old_object
  pub params : IsValue P env.roots.params
  pub namespace_object : IsValue P env.roots.namespace_object
  pub request : IsValue P env.roots.request
  pub items : AllByRecursion (λ b. IsValue P b.1) env.items
  pub variables : AllByRecursion (λ b. IsValueOrError P b.1) env.variables

abbrev mutual
  -- P holds if a function or a method of the expression is `size`
  pub AtSize : Type 0 → Tree → Type 0
  AtSize P (tree.literal l) = ⊤
  AtSize P (tree.name n) = ⊤
  AtSize P (tree.select a f) = AtSize P a
  AtSize P (tree.index a k) = AtSize P a × AtSize P k
  AtSize P (tree.call n arguments) = (function_named n ≡ Some Size → P) × AtSizes P arguments
  AtSize P (tree.method a n arguments) = AtSize P a × (function_named n ≡ Some Size → P) × AtSizes P arguments
  AtSize P (tree.unary op a) = AtSize P a
  AtSize P (tree.binary op a b) = AtSize P a × AtSize P b
  AtSize P (tree.ternary c a b) = AtSize P c × AtSize P a × AtSize P b
  AtSize P (tree.list items) = AtSizes P items
  AtSize P (tree.map es) = AtEntrySizes P es

  -- P holds if one of the expressions uses `size`
  pub AtSizes : Type 0 → Trees → Type 0
  AtSizes P no_trees = ⊤
  AtSizes P (more_trees a more) = AtSize P a × AtSizes P more

  -- P holds if a key or a value uses `size`
  pub AtEntrySizes : Type 0 → TreeEntries → Type 0
  AtEntrySizes P no_tree_entries = ⊤
  AtEntrySizes P (more_entries k v more) = AtSize P k × AtSize P v × AtEntrySizes P more

-- no function and no method of the expression is `size`
abbrev pub HasNoSize : Tree → Type 0
HasNoSize e = AtSize ⊥ e

-- texts stay UTF-8, and keys stay in order without duplicates
abbrev pub TextsAndKeysStay : Type 0
TextsAndKeysStay = (e : Tree) (env : Environment) → IsWellFormed e → NamesValues (λ z. ⊤) env → IsValueOrError (λ z. ⊤) (meaning e env)

-- without `size`, ints also stay signed 64-bit integers. `size` is excluded, since nothing here bounds the number of
-- parts of a text, a list or a map, and a size of 2^63 or more does not fit
abbrev pub IntsStay : Type 0
IntsStay = (e : Tree) (env : Environment) → IsWellFormed e → HasNoSize e → NamesValues (FitsSigned w64) env
    → IsValueOrError (FitsSigned w64) (meaning e env)
