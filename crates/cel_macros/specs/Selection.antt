-- Fields, keys and indices (cel-spec, Field Selection, the macro `has`).
use Rattle.std.specs.Prelude.{ℕ, pos, List, slice_get}
use Rattle.value_store.specs.Value.{ValueOrError, error, value, boolean, int, text, list, map, list_of}
use Rattle.value_store.specs.Lookup.{find, has_key}
use Rattle.cel_macros.specs.Environment.{value_or_error}

-- x.f: the value of the map x at the key f; the error if x lacks it or is not a map (cel-spec, Field Selection)
abbrev pub field_of : ValueOrError → List ℕ → ValueOrError
field_of (value (map es)) f = value_or_error (find f es)
field_of _ f = error

-- has(x.f): whether the map x has the key f; the error if x is not a map (cel-spec, Macros)
abbrev pub has_of : ValueOrError → List ℕ → ValueOrError
has_of (value (map es)) f = value (boolean (has_key f es))
has_of _ f = error

-- x[k]: the item of the list x at the int k, counted from 0, or the value of the map x at the text k; the error for all else
abbrev pub index_of : ValueOrError → ValueOrError → ValueOrError
index_of (value (list is)) (value (int (pos i))) = value_or_error (slice_get (list_of is) i)
index_of (value (map es)) (value (text k)) = value_or_error (find k es)
index_of _ _ = error
