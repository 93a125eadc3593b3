-- The width of a value: how many items or entries the largest list or map in it has.
use Rattle.std.specs.Prelude.{ℕ, max, List, [], ◌∷◌, length}
use Rattle.value_store.specs.Value.{Value, null, boolean, int, text, list, map}
use Rattle.value_store.specs.Value.{Items, no_items, item, list_of, Entries, no_entries, entry, keys_of}
use Rattle.value_store.specs.Value.{ValueOrError, error, value}

abbrev mutual
  -- the number of items or entries of the largest list or map in a value, itself included; 0 if there is none
  pub width_of : Value → ℕ
  width_of null = 0
  width_of (boolean b) = 0
  width_of (int n) = 0
  width_of (text s) = 0
  width_of (list is) = max (length (list_of is)) (items_width is)
  width_of (map es) = max (length (keys_of es)) (entries_width es)

  -- the width of the widest item, 0 without items
  pub items_width : Items → ℕ
  items_width no_items = 0
  items_width (item v is) = max (width_of v) (items_width is)

  -- the width of the widest value of the entries, 0 without entries
  pub entries_width : Entries → ℕ
  entries_width no_entries = 0
  entries_width (entry k v es) = max (width_of v) (entries_width es)

-- the width of the widest of the values, 0 without any
abbrev pub widest : List Value → ℕ
widest [] = 0
widest (v ∷ vs) = max (width_of v) (widest vs)

-- the width of a value; 0 for the error
abbrev pub result_width : ValueOrError → ℕ
result_width error = 0
result_width (value v) = width_of v
