-- The values that cells represent. A cell refers to parts of backings, which may have grown since it was added.
use Rattle.std.specs.Prelude.{ℕ, List, [], ◌∷◌, ◌++◌, slice_index_or, Option, Some, None, true, false, option_and_then, slice_get}
use Rattle.value_store.specs.Value as kind
use Rattle.value_store.specs.Value.{Value, Items, no_items, item, Entries, no_entries, entry}
use Rattle.value_store.specs.Calls.{entries_part}
pub use Rattle.value_backings.specs.Ranges.{part_of, refs_at, keys_at}
use Rattle.value_backings.specs.declared.part.Part.{Part}
use Rattle.value_table.specs.declared.content.Content.{Content}
use Rattle.value_table.specs.declared.content.Content.TheVariants as cell
use Rattle.value_table.specs.declared.cell.Cell.{Cell}
use Rattle.value_backings.specs.declared.backings.Backings.{Backings}

-- the value at a place
abbrev pub value_in : List Value → ℕ → Value
value_in vs r = slice_index_or vs r kind.null

-- the values at these places
abbrev pub items_at : List Value → List ℕ → Items
items_at vs [] = no_items
items_at vs (r ∷ rs) = item (value_in vs r) (items_at vs rs)

-- the entries with these keys, at the values at these places
abbrev pub entries_at : List ℕ → List Value → List Part → List ℕ → Entries
entries_at bytes vs [] rs = no_entries
entries_at bytes vs (k ∷ ks) [] = no_entries
entries_at bytes vs (k ∷ ks) (r ∷ rs) = entry (part_of bytes k) (value_in vs r) (entries_at bytes vs ks rs)

-- the value that a cell represents, given the values before it
abbrev pub meaning : Backings → List Value → Content → Value
meaning bs vs cell.Null = kind.null
meaning bs vs (cell.Bool b) = kind.boolean b
meaning bs vs (cell.Int n) = kind.int n
meaning bs vs (cell.Text p) = kind.text (part_of bs.bytes p)
meaning bs vs (cell.List b n) = kind.list (items_at vs (refs_at bs.lists b n))
meaning bs vs (cell.Map k b n) = kind.map (entries_at bs.bytes vs (keys_at bs.keys k n) (refs_at bs.lists b n))

-- the values of the cells; each may refer to those before it
abbrev pub grown : Backings → List Value → List Cell → List Value
grown bs vs [] = vs
grown bs vs (c ∷ cs) = grown bs (vs ++ meaning bs vs c.content ∷ []) cs

-- the items of a list
abbrev pub list_part : Value → Option Items
list_part (kind.list is) = Some is
list_part kind.null = None
list_part (kind.boolean b) = None
list_part (kind.int n) = None
list_part (kind.text s) = None
list_part (kind.map es) = None

-- the reference of null, false or true
abbrev pub reference_of : Content → Option ℕ
reference_of cell.Null = Some 1
reference_of (cell.Bool false) = Some 2
reference_of (cell.Bool true) = Some 3
reference_of (cell.Int n) = None
reference_of (cell.Text p) = None
reference_of (cell.List b n) = None
reference_of (cell.Map k b n) = None

-- the i-th key of a map
abbrev pub key_in : Value → ℕ → Option (List ℕ)
key_in v i = option_and_then (λ es. slice_get (kind.keys_of es) i) (entries_part v)
