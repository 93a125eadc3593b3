-- Macros over the items of a list or the keys of a map (cel-spec, Macros).
use Rattle.std.specs.Prelude.{ℕ, Bool, true, false, List, [], ◌∷◌, Option, Some, None, if◌then◌else◌, nat_eq, bytes_eq, codes, filter, count_by, find}
use Rattle.std.specs.Prelude.{map as each}
use Rattle.std.specs.List.{list_any, list_all}
use Rattle.cel_reader.specs.Tree as tree
use Rattle.cel_reader.specs.Tree.{Tree}
use Rattle.value_store.specs.Value.{Value, ValueOrError, error, value, boolean, text, list, map, list_of, keys_of}
use Rattle.cel_macros.specs.declared.macros.Macro.{Macro, TheVariants.All, TheVariants.Exists, TheVariants.ExistsOne, TheVariants.Filter, TheVariants.Map}
use Rattle.cel_macros.specs.Logic.{Truth, Yes, No, Other, truth}
use Rattle.cel_macros.specs.Literals.{list_literal, list_or_error}

-- the name of a macro over a range
abbrev pub macro_name : Macro → List ℕ
macro_name All = codes "all"
macro_name Exists = codes "exists"
macro_name ExistsOne = codes "exists_one"
macro_name Filter = codes "filter"
macro_name Map = codes "map"

-- the macro over a range with this name, if any
unfoldable pub macro_named : List ℕ → Option Macro
macro_named n = find (λ m. bytes_eq (macro_name m) n) (All ∷ Exists ∷ ExistsOne ∷ Filter ∷ Map ∷ [])

-- the name before the dot of a policy's variables (ValidatingAdmissionPolicy v1)
abbrev pub variables_name : List ℕ
variables_name = codes "variables"

-- whether a name is `map`, the macro with a transform and optionally a predicate before it
unfoldable pub is_map : List ℕ → Bool
is_map n = bytes_eq (macro_name Map) n

-- whether a name is `has`, the macro that tests for a field
unfoldable pub is_has : List ℕ → Bool
is_has n = bytes_eq (codes "has") n

-- the name, if the expression is one
abbrev pub name_of : Tree → Option (List ℕ)
name_of (tree.name n) = Some n
name_of _ = None

-- the field, if the expression selects one
abbrev pub field_name : Tree → Option (List ℕ)
field_name (tree.select a f) = Some f
field_name _ = None

-- whether the expression is the name `variables`
unfoldable pub is_variables : Tree → Bool
is_variables (tree.name n) = bytes_eq variables_name n
is_variables _ = false

-- the range of a macro: the items of a list, or the keys of a map in byte order; None for all else
abbrev pub range_of : ValueOrError → Option (List Value)
range_of (value (list is)) = Some (list_of is)
range_of (value (map es)) = Some (each text (keys_of es))
range_of _ = None

-- whether a truth is true
abbrev pub is_yes : Truth → Bool
is_yes Yes = true
is_yes _ = false

-- whether a truth is false
abbrev pub is_no : Truth → Bool
is_no No = true
is_no _ = false

-- whether a truth is neither
abbrev pub is_other : Truth → Bool
is_other Other = true
is_other _ = false

-- one false decides, else all must be true
abbrev pub all_of : List Truth → ValueOrError
all_of ts = if list_any is_no ts then value (boolean false) else (if list_all is_yes ts then value (boolean true) else error)

-- one true decides, else all must be false
abbrev pub exists_of : List Truth → ValueOrError
exists_of ts = if list_any is_yes ts then value (boolean true) else (if list_all is_no ts then value (boolean false) else error)

-- whether exactly one is true; the error if one is neither true nor false: no error is absorbed
abbrev pub exists_one_of : List Truth → ValueOrError
exists_one_of ts = if list_any is_other ts then error else value (boolean (nat_eq (count_by is_yes ts) 1))

-- the result for the items whose predicate is true; the error if a predicate is neither true nor false
abbrev pub where_true : (Value → Truth) → (List Value → ValueOrError) → List Value → ValueOrError
where_true p result items = if list_any (λ x. is_other (p x)) items then error else result (filter (λ x. is_yes (p x)) items)

-- the list of f applied to each item; the error if one of these is the error
abbrev pub map_of : (Value → ValueOrError) → List Value → ValueOrError
map_of f items = list_literal (each f items)

-- a macro over items, with f as predicate or transform
abbrev pub macro_of : Macro → (Value → ValueOrError) → List Value → ValueOrError
macro_of All f items = all_of (each (λ x. truth (f x)) items)
macro_of Exists f items = exists_of (each (λ x. truth (f x)) items)
macro_of ExistsOne f items = exists_one_of (each (λ x. truth (f x)) items)
macro_of Filter f items = where_true (λ x. truth (f x)) (λ kept. list_or_error (Some kept)) items
macro_of Map f items = map_of f items

-- a macro over a range, with its predicate or transform by iteration name and item; the error if a part is missing
abbrev pub over_range : Option Macro → Option (List ℕ) → (List ℕ → Value → ValueOrError) → Option (List Value) → ValueOrError
over_range (Some m) (Some n) f (Some items) = macro_of m (f n) items
over_range _ _ f _ = error

-- `map` with a predicate and a transform over a range; the error if a part is missing
abbrev pub map_over_range : Bool → Option (List ℕ) → (List ℕ → Value → ValueOrError) → (List ℕ → Value → ValueOrError) → Option (List Value)
    → ValueOrError
map_over_range true (Some n) p f (Some items) = where_true (λ x. truth (p n x)) (map_of (f n)) items
map_over_range _ _ p f _ = error
