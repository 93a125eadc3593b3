-- The rows that make texts, lists and maps.
use Rattle.std.specs.Prelude.{ℕ, Bool, false, List, length, Option, Some, None, nat_le, if◌then◌else◌}
use Rattle.guest_memory.specs.declared.fault.Fault.TheVariants.{F8}
use Rattle.value_store.specs.Calls.{entries_at, text_at, joined, pushed, put_in}
use Rattle.value_store.specs.Lookup.{has_key}
use Rattle.value_store.specs.Size.{depth_of, result_depth}
use Rattle.value_store.specs.Value.{Value, text, list, map, no_items, Entries, no_entries, ValueOrError, list_of}
use Rattle.helper_table.specs.Outcome.{RowOutcome, Plain, Named, Refused}

-- the concatenation, if there is one
abbrev pub sequence : Option Value → RowOutcome
sequence (Some (text s)) = Named (text s) (length s)
sequence (Some (list is)) = Named (list is) (length (list_of is))
sequence _ = Plain 0 0

-- the concatenation of two texts or two lists, with each byte or item of the result charged
unfoldable pub join_row : ValueOrError → ValueOrError → RowOutcome
join_row a b = sequence (joined (Some a) (Some b))

-- an empty list
unfoldable pub list_new_row : RowOutcome
list_new_row = Named (list no_items) 0

-- an empty map
unfoldable pub map_new_row : RowOutcome
map_new_row = Named (map no_entries) 0

-- the maximum depth of a list or a map that is made
abbrev pub depth_limit : ℕ
depth_limit = 255

-- the depth of the value at a reference
abbrev pub depth_at : Option ValueOrError → ℕ
depth_at (Some x) = result_depth x
depth_at None = 0

-- a list or a map with one more part, within the depth limit; 1 is charged even if nothing is added
abbrev pub grown : Option Value → RowOutcome
grown (Some v) = if nat_le (depth_of v) depth_limit then Named v 1 else Refused F8
grown None = Plain 0 1

-- a list with a value appended
unfoldable pub push_row : ValueOrError → ValueOrError → RowOutcome
push_row l x = grown (pushed (Some l) (Some x))

-- whether a text is a key of a map
abbrev pub is_key : Option Entries → Option (List ℕ) → Bool
is_key (Some es) (Some key) = has_key key es
is_key (Some es) None = false
is_key None key = false

-- a map with one more entry, whose key it does not have yet
abbrev pub entered : Option ValueOrError → Option ValueOrError → Option ValueOrError → Option Value
entered m k x = if is_key (entries_at m) (text_at k) then None else put_in m k x

-- a map with one more entry, whose key is a text that the map does not have yet
unfoldable pub put_row : ValueOrError → ValueOrError → ValueOrError → RowOutcome
put_row m k x = grown (entered (Some m) (Some k) (Some x))
