-- The values of CEL (cel-spec, Values), and the outcome of an evaluation.
use Rattle.std.specs.Prelude.{ℕ, ℤ, Bool, List, [], ◌∷◌}

mutual
  -- null, a bool, an int, a text by its bytes, a list, or a map. The type does not bound an int, require UTF-8 or
  -- order keys: `IsOrdered` states that the keys of a map are in byte order without duplicates
  pub data Value : Type 0 where
    null : Value
    boolean : Bool → Value
    int : ℤ → Value
    text : List ℕ → Value
    list : Items → Value
    map : Entries → Value

  -- the items of a list, in order
  pub data Items : Type 0 where
    no_items : Items
    item : Value → Items → Items

  -- the entries of a map, each the bytes of a key and its value
  pub data Entries : Type 0 where
    no_entries : Entries
    entry : List ℕ → Value → Entries → Entries

-- the outcome of an evaluation, and what a reference refers to: a value, or the
-- one error, which is never inside a value
pub data ValueOrError : Type 0 where
  error : ValueOrError
  value : Value → ValueOrError

-- the items as a list
abbrev pub list_of : Items → List Value
list_of no_items = []
list_of (item v more) = v ∷ list_of more

-- the items of a list of values
abbrev pub items_of : List Value → Items
items_of [] = no_items
items_of (v ∷ more) = item v (items_of more)

-- the keys of the entries, in their order
abbrev pub keys_of : Entries → List (List ℕ)
keys_of no_entries = []
keys_of (entry k v more) = k ∷ keys_of more

-- the values of the entries, in the order of their keys
abbrev pub values_of : Entries → List Value
values_of no_entries = []
values_of (entry k v more) = v ∷ values_of more

-- the items with one appended
abbrev pub items_push : Items → Value → Items
items_push no_items w = item w no_items
items_push (item v more) w = item v (items_push more w)

-- the concatenation of two sequences of items
abbrev pub items_join : Items → Items → Items
items_join no_items ws = ws
items_join (item v more) ws = item v (items_join more ws)
