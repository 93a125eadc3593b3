-- The head of a value: everything but the values of its parts.
use Rattle.std.specs.Prelude.{ℕ, List, [], ◌∷◌, map, ⊤}
use Rattle.value_store.specs.Value as kind
use Rattle.value_store.specs.Value.{Value, Entries, no_entries, entry, items_of}
use Rattle.value_table.specs.Meaning.{part_of, value_in, refs_at, keys_at}
use Rattle.value_table.specs.Heaps.{IsText, AreKeys}
use Rattle.value_backings.specs.declared.part.Part.{Part}
use Rattle.value_table.specs.declared.content.Content.{Content}
use Rattle.value_table.specs.declared.content.Content.TheVariants as cell
use Rattle.value_backings.specs.declared.backings.Backings.{Backings}

-- a value without parts, the number of items of a list, or the keys of a map
pub data Head : Type 0 where
  simple : Value → Head
  items : ℕ → Head
  entries : List (List ℕ) → Head

abbrev pub texts_of : List ℕ → List Part → List (List ℕ)
texts_of bytes ps = map (part_of bytes) ps

abbrev pub head : Backings → Content → Head
head bs cell.Null = simple kind.null
head bs (cell.Bool b) = simple (kind.boolean b)
head bs (cell.Int n) = simple (kind.int n)
head bs (cell.Text p) = simple (kind.text (part_of bs.bytes p))
head bs (cell.List b n) = items n
head bs (cell.Map k b n) = entries (texts_of bs.bytes (keys_at bs.keys k n))

-- the places of a value's parts: the items of a list, or the values of a map
abbrev pub parts : Backings → Content → List ℕ
parts bs cell.Null = []
parts bs (cell.Bool b) = []
parts bs (cell.Int n) = []
parts bs (cell.Text p) = []
parts bs (cell.List b n) = refs_at bs.lists b n
parts bs (cell.Map k b n) = refs_at bs.lists b n

abbrev pub values_at : List Value → List ℕ → List Value
values_at vs rs = map (value_in vs) rs

abbrev pub entries_of : List (List ℕ) → List Value → Entries
entries_of [] vs = no_entries
entries_of (k ∷ ks) [] = no_entries
entries_of (k ∷ ks) (v ∷ vs) = entry k v (entries_of ks vs)

-- the value with this head and these values of its parts
abbrev pub built : Head → List Value → Value
built (simple v) vs = v
built (items n) vs = kind.list (items_of vs)
built (entries ks) vs = kind.map (entries_of ks vs)

-- the texts that a cell refers to can be read
abbrev pub IsReadable : Backings → Content → Type 0
IsReadable bs cell.Null = ⊤
IsReadable bs (cell.Bool b) = ⊤
IsReadable bs (cell.Int n) = ⊤
IsReadable bs (cell.Text p) = IsText bs.bytes p
IsReadable bs (cell.List b n) = ⊤
IsReadable bs (cell.Map k b n) = AreKeys bs.bytes bs.keys k n
