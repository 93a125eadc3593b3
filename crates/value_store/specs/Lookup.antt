-- Lookup in lists and maps, and insertion into maps.
use Rattle.std.specs.Prelude.{ℕ, suc, Bool, ◌||◌, List, Option, Some, None, if◌then◌else◌, bytes_eq, is_some, option_map, false}
use Rattle.std.specs.declared.cmp.Ordering.{Ordering, TheVariants.Less, TheVariants.Equal, TheVariants.Greater}
use Rattle.std.specs.Ordering.{nat_cmp}
use Rattle.std.specs.Cmp.Lexicographic.{slice_cmp}
use Rattle.value_store.specs.Value.{Value, text, list, map, Items, no_items, item, Entries, no_entries, entry}
use Rattle.value_store.specs.Equality.{equal}

-- the value at a key, if the map has the key
abbrev pub find : List ℕ → Entries → Option Value
find key no_entries = None
find key (entry k v more) = if bytes_eq k key then Some v else find key more

-- the position of a key among the entries, counted from 0
abbrev pub place_of_key : List ℕ → Entries → Option ℕ
place_of_key key no_entries = None
place_of_key key (entry k v more) = if bytes_eq k key then Some 0 else option_map suc (place_of_key key more)

-- whether a map has a key
abbrev pub has_key : List ℕ → Entries → Bool
has_key key es = is_some (find key es)

-- whether an item is equal to x
abbrev pub has_item : Value → Items → Bool
has_item x no_items = false
has_item x (item v more) = equal x v || has_item x more

-- the bytes of a text
abbrev pub text_part : Value → Option (List ℕ)
text_part (text s) = Some s
text_part _ = None

-- whether x is in a value: a list has an equal item, a map has the text x as a key; None for other values
abbrev pub member : Value → Value → Option Bool
member x (list is) = Some (has_item x is)
member x (map es) = option_map (λ key. has_key key es) (text_part x)
member x _ = None

-- entries with a new one, by the comparison of its key with the first key k: before the first if
-- less, None if equal, into the rest if greater
abbrev pub inserted_by : Ordering → List ℕ → Value → List ℕ → Value → Entries → Option Entries → Option Entries
inserted_by Less key x k v more rest = Some (entry key x (entry k v more))
inserted_by Equal key x k v more rest = None
inserted_by Greater key x k v more rest = option_map (entry k v) rest

-- the entries with one more, in byte order of the keys; None if the key is already there
abbrev pub inserted : List ℕ → Value → Entries → Option Entries
inserted key x no_entries = Some (entry key x no_entries)
inserted key x (entry k v more) = inserted_by (slice_cmp nat_cmp key k) key x k v more (inserted key x more)
