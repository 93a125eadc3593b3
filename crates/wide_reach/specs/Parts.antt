-- The parts of values that an expression can have.
use Rattle.std.specs.Prelude.{ℕ, List, [], ◌++◌}
use Rattle.std.specs.Prelude.{map as each}
use Rattle.std.specs.List.{flat_map}
use Rattle.std.specs.Option.{option_to_list}
use Rattle.value_store.specs.Value.{Value, text, list, map, list_of, keys_of, values_of}
use Rattle.value_store.specs.Lookup.{find}

-- the items of a list; none of all else
abbrev pub items_in : Value → List Value
items_in (list is) = list_of is
items_in _ = []

-- the keys of a map
abbrev pub keys_in : Value → List Value
keys_in (map es) = each text (keys_of es)
keys_in _ = []

-- the value of a map at the key f, if it has one
abbrev pub field_in : List ℕ → Value → List Value
field_in f (map es) = option_to_list (find f es)
field_in f _ = []

-- the values of a map at all its keys
abbrev pub entries_in : Value → List Value
entries_in (map es) = values_of es
entries_in _ = []

-- the same parts of each of the values
abbrev pub items : List Value → List Value
items vs = flat_map items_in vs

abbrev pub keys : List Value → List Value
keys vs = flat_map keys_in vs

abbrev pub fields : List ℕ → List Value → List Value
fields f vs = flat_map (field_in f) vs

abbrev pub entries : List Value → List Value
entries vs = flat_map entries_in vs

-- what an index or an iteration over values can give: items and values at keys, or items and keys
abbrev pub indexed : List Value → List Value
indexed vs = items vs ++ entries vs

abbrev pub ranged : List Value → List Value
ranged vs = items vs ++ keys vs
