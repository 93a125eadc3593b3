-- The rows that look up a part of a map, a list or a text.
use Rattle.std.specs.Prelude.{ℕ, pos, List, Option, Some, None, option_map, option_and_then}
use Rattle.text_kernels.specs.Scans.{code_points_of}
use Rattle.value_store.specs.Calls.{entries_at, part_at, key_at}
use Rattle.value_store.specs.Lookup.{find, has_key}
use Rattle.value_store.specs.Seen.{Seen, sees_text, sees_list, sees_map, outcome_view}
use Rattle.value_store.specs.Value.{Value, int, ValueOrError}
use Rattle.helper_table.specs.Operands.{count_part, place_part, text_part}
use Rattle.helper_table.specs.Outcome.{RowOutcome, Plain, found, truth}

-- a map's value at a key
abbrev pub value_under : Option ValueOrError → List ℕ → Option Value
value_under m key = option_and_then (find key) (entries_at m)

-- a map's value at a key; the error if it lacks the key or is not a map
unfoldable pub field_row : ValueOrError → List ℕ → RowOutcome
field_row m key = found (value_under (Some m) key)

-- whether a map has a key
abbrev pub has_under : Option ValueOrError → List ℕ → RowOutcome
has_under m key = truth (option_map (has_key key) (entries_at m))

-- whether a map has a key; the error if it is not a map
unfoldable pub has_row : ValueOrError → List ℕ → RowOutcome
has_row m key = has_under (Some m) key

-- a list's item at an int, or a map's value at a text
abbrev pub part_by : Seen → Seen → Option ValueOrError → Option Value
part_by (sees_list n) k x = option_and_then (part_at x) (place_part k)
part_by (sees_map n) k x = option_and_then (value_under x) (text_part k)
part_by _ k x = None

-- a list's item at an int, counted from 0, or a map's value at a text; the error if there is none
unfoldable pub index_row : ValueOrError → ValueOrError → RowOutcome
index_row x k = found (part_by (outcome_view x) (outcome_view k) (Some x))

-- the number of code points, items or entries
abbrev pub size_part : Seen → Option ℕ
size_part (sees_text s) = Some (code_points_of s)
size_part (sees_list n) = Some n
size_part (sees_map n) = Some n
size_part _ = None

-- a size as an int; the error if there is none
abbrev pub size_found : Option ℕ → RowOutcome
size_found n = found (option_map (λ size. int (pos size)) n)

-- the number of a text's code points, a list's items, or a map's entries
unfoldable pub size_row : ValueOrError → RowOutcome
size_row x = size_found (size_part (outcome_view x))

-- a list's i-th item, or a map's i-th key in byte order, counted from 0
abbrev pub item_or_key : Seen → ℕ → Option ValueOrError → Option Value
item_or_key (sees_list n) i x = part_at x i
item_or_key (sees_map n) i x = key_at x i
item_or_key _ i x = None

-- a list's i-th item, or a map's i-th key in byte order, counted from 0; the error if there is none
unfoldable pub item_row : ValueOrError → ℕ → RowOutcome
item_row x i = found (item_or_key (outcome_view x) i (Some x))

-- the number of items or entries; for other values a word that no count can be
abbrev pub count_word : Option ℕ → ℕ
count_word (Some n) = n
count_word None = 0xffff_ffff_ffff_ffff

-- the number of a list's items, or of a map's entries
unfoldable pub count_row : ValueOrError → RowOutcome
count_row x = Plain (count_word (count_part (outcome_view x))) 0
