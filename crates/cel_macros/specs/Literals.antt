-- Literals of values, lists and maps (cel-spec, Aggregate Literals).
use Rattle.std.specs.Prelude.{ℕ, List, [], ◌∷◌, Option, Some, None, option_map}
use Rattle.cel_reader.specs.Tree as tree
use Rattle.value_store.specs.Value.{Value, ValueOrError, error, value, null, boolean, int, text, list, map, Entries, no_entries, items_of}
use Rattle.value_store.specs.Lookup.{inserted}

-- the value of a literal
abbrev pub literal_of : tree.Literal → ValueOrError
literal_of (tree.int z) = value (int z)
literal_of (tree.text s) = value (text s)
literal_of (tree.truth b) = value (boolean b)
literal_of tree.null = value null

-- the value prepended to the others; None if it is the error or the others are missing
abbrev pub with_value : ValueOrError → Option (List Value) → Option (List Value)
with_value (value v) more = option_map (λ vs. v ∷ vs) more
with_value error more = None

-- the values, if none of them is the error
abbrev pub values_in : List ValueOrError → Option (List Value)
values_in [] = Some []
values_in (x ∷ xs) = with_value x (values_in xs)

-- the list of the values, or the error if there is none
abbrev pub list_or_error : Option (List Value) → ValueOrError
list_or_error (Some vs) = value (list (items_of vs))
list_or_error None = error

-- the list of the elements' values; the error if an element is the error
abbrev pub list_literal : List ValueOrError → ValueOrError
list_literal xs = list_or_error (values_in xs)

-- the bytes of the text, if the result is one
abbrev pub text_part : ValueOrError → Option (List ℕ)
text_part (value (text s)) = Some s
text_part _ = None

-- the entries with one more; None if its key is not a text or already there, or its value is the error
abbrev pub with_entry : Option (List ℕ) → ValueOrError → Option Entries → Option Entries
with_entry (Some k) (value v) (Some es) = inserted k v es
with_entry _ _ _ = None

-- the entries, if each key is a text, no key is repeated and no value is the error
abbrev pub entries_in : List (ValueOrError × ValueOrError) → Option Entries
entries_in [] = Some no_entries
entries_in (e ∷ es) = with_entry (text_part e.0) e.1 (entries_in es)

-- the map of the entries, or the error if there is none
abbrev pub map_or_error : Option Entries → ValueOrError
map_or_error (Some es) = value (map es)
map_or_error None = error

-- the map of the keys' and values' meanings; the error if a key is not a text or repeated, or a value is the error
abbrev pub map_literal : List (ValueOrError × ValueOrError) → ValueOrError
map_literal es = map_or_error (entries_in es)
