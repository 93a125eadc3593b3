-- Macros over ranges, and over optional values.
use Rattle.std.specs.Prelude.{ℕ, suc, pos, List, [], ◌∷◌, Option, Some, None, if◌then◌else◌, filter, unwrap_or}
use Rattle.std.specs.Prelude.{map as each}
use Rattle.std.specs.List.{list_any}
use Rattle.value_store.specs.Value.{Value, ValueOrError, error, value, int, text, list, map, list_of, Entries, no_entries, entry}
use Rattle.value_store.specs.Lookup.{find}
use Rattle.cel_macros.specs.declared.macros.Macro.{Macro as PlainMacro}
use Rattle.cel_macros.specs.declared.macros.Macro.TheVariants as plain_macro
use Rattle.cel_macros.specs.Literals.{list_literal}
use Rattle.cel_macros.specs.Logic.{truth}
use Rattle.cel_macros.specs.Macros.{is_yes, is_other, all_of, exists_of, exists_one_of, macro_of, map_of, where_true}
use Rattle.wide_reader.specs.declared.wide.Macro.{Macro}
use Rattle.wide_reader.specs.declared.wide.Macro.TheVariants as macro
use Rattle.wide_reader.specs.declared.wide.PairMacro.{PairMacro}
use Rattle.wide_reader.specs.declared.wide.PairMacro.TheVariants as pair
use Rattle.wide_reader.specs.declared.wide.OptionalMacro.{OptionalMacro, TheVariants.Map, TheVariants.FlatMap}
use Rattle.wide_meaning.specs.Outcome.{Outcome, failed, absent, present, some_of}

-- the macro of the profile
abbrev pub plain_macro_of : Macro → PlainMacro
plain_macro_of macro.All = plain_macro.All
plain_macro_of macro.Exists = plain_macro.Exists
plain_macro_of macro.ExistsOne = plain_macro.ExistsOne
plain_macro_of macro.Filter = plain_macro.Filter
plain_macro_of macro.Map = plain_macro.Map

-- a macro over the items of a range; the error if there is none
abbrev pub over_items : PlainMacro → (Value → ValueOrError) → Option (List Value) → ValueOrError
over_items m f None = error
over_items m f (Some items) = macro_of m f items

-- `map` with a predicate and a transform over the items of a range; the error if there is none
abbrev pub filter_map_over : (Value → ValueOrError) → (Value → ValueOrError) → Option (List Value) → ValueOrError
filter_map_over p f None = error
filter_map_over p f (Some items) = where_true (λ x. truth (p x)) (map_of f) items

-- the items of a list, each with its index, from n
abbrev pub numbered : ℕ → List Value → List (Value × Value)
numbered n [] = []
numbered n (v ∷ vs) = (int (pos n), v) ∷ numbered (suc n) vs

-- the keys of these entries, each with its value in the map es
abbrev pub keyed : Entries → Entries → List (Value × Value)
keyed es no_entries = []
keyed es (entry k v more) = (text k, unwrap_or (find k es) v) ∷ keyed es more

-- the range of a macro with two names: the items of a list with their indices, or the keys of a map in byte order with
-- their values; None for all else (cel-go, ext/comprehensions.go)
abbrev pub pairs_of : ValueOrError → Option (List (Value × Value))
pairs_of (value (list is)) = Some (numbered 0 (list_of is))
pairs_of (value (map es)) = Some (keyed es es)
pairs_of _ = None

-- a macro over pairs, with f as predicate or transform
abbrev pub pair_macro_of : PairMacro → (Value × Value → ValueOrError) → List (Value × Value) → ValueOrError
pair_macro_of pair.All f ps = all_of (each (λ p. truth (f p)) ps)
pair_macro_of pair.Exists f ps = exists_of (each (λ p. truth (f p)) ps)
pair_macro_of pair.ExistsOne f ps = exists_one_of (each (λ p. truth (f p)) ps)
pair_macro_of pair.TransformList f ps = list_literal (each f ps)

-- a macro over the pairs of a range; the error if there is none
abbrev pub over_pairs : PairMacro → (Value × Value → ValueOrError) → Option (List (Value × Value)) → ValueOrError
over_pairs m f None = error
over_pairs m f (Some ps) = pair_macro_of m f ps

-- `transformList` with a predicate over the pairs of a range; the error if there is none, or a predicate is not a bool
abbrev pub pair_filter_map_over : (Value × Value → ValueOrError) → (Value × Value → ValueOrError) → Option (List (Value × Value)) → ValueOrError
pair_filter_map_over p f None = error
pair_filter_map_over p f (Some ps) =
    if list_any (λ x. is_other (truth (p x))) ps then error else list_literal (each f (filter (λ x. is_yes (truth (p x))) ps))

-- `optMap` or `optFlatMap`, with f for the transform; the error for all but an optional value
abbrev pub optional_over : OptionalMacro → (Value → Outcome) → Outcome → Outcome
optional_over Map f (present v) = some_of (f v)
optional_over FlatMap f (present v) = f v
optional_over m f absent = absent
optional_over m f _ = failed
