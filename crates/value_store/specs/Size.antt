-- The size and the depth of a value.
use Rattle.std.specs.Prelude.{ℕ, ◌+◌, max, length}
use Rattle.value_store.specs.Value.{Value, null, boolean, int, text, list, map, Items, no_items, item, Entries, no_entries, entry, ValueOrError, error, value}

abbrev mutual
  -- the size of a value: 1, plus the bytes of a text, plus the sizes of items, plus for each entry
  -- 1, the bytes of its key and its value's size
  pub size_of : Value → ℕ
  size_of null = 1
  size_of (boolean b) = 1
  size_of (int n) = 1
  size_of (text s) = 1 + length s
  size_of (list is) = 1 + items_size is
  size_of (map es) = 1 + entries_size es

  -- the sum of the items' sizes
  pub items_size : Items → ℕ
  items_size no_items = 0
  items_size (item v is) = size_of v + items_size is

  -- the sum over the entries of 1, the bytes of the key and the value's size
  pub entries_size : Entries → ℕ
  entries_size no_entries = 0
  entries_size (entry k v es) = 1 + length k + size_of v + entries_size es

abbrev mutual
  -- the nesting depth of lists and maps: 0 for other values, 1 for an empty list or map
  pub depth_of : Value → ℕ
  depth_of null = 0
  depth_of (boolean b) = 0
  depth_of (int n) = 0
  depth_of (text s) = 0
  depth_of (list is) = 1 + items_depth is
  depth_of (map es) = 1 + entries_depth es

  -- the depth of the deepest item, 0 without items
  pub items_depth : Items → ℕ
  items_depth no_items = 0
  items_depth (item v is) = max (depth_of v) (items_depth is)

  -- the depth of the deepest value of the entries, 0 without entries
  pub entries_depth : Entries → ℕ
  entries_depth no_entries = 0
  entries_depth (entry k v es) = max (depth_of v) (entries_depth es)

-- the size of the value at a reference; 1 for the error
abbrev pub result_size : ValueOrError → ℕ
result_size error = 1
result_size (value v) = size_of v

-- the depth of the value at a reference; 0 for the error
abbrev pub result_depth : ValueOrError → ℕ
result_depth error = 0
result_depth (value v) = depth_of v
