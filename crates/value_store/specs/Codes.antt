-- Encodings of values, so that a ghost model can hold them.
use Rattle.std.specs.Prelude.{◌≡◌, ℕ, ℤ, pos, negsuc, zero, suc, Bool, true, false, List, [], ◌∷◌, refl}
use Rattle.std.specs.Coded.{Coded, code_by}
use Rattle.std.proofs.Common.{ap}
use base.Stored.{Gv, gnil, gnum, gcons}
use denote.Struct.Codes.{itself}
use Rattle.value_store.specs.Value.{Value, null, boolean, int, text, list, map, Items, no_items, item, Entries, no_entries, entry, ValueOrError, error, value}

-- an int as a code
abbrev z_tree : ℤ → Gv
z_tree (pos n) = gcons gnil (gnum n)
z_tree (negsuc n) = gcons (gnum 0) (gnum n)

-- the number that a code encodes, 0 if it encodes none
abbrev number : Gv → ℕ
number (gnum n) = n
number _ = 0

-- the int that a code encodes
abbrev tree_z : Gv → ℤ
tree_z (gcons gnil b) = pos (number b)
tree_z (gcons (gnum n) b) = negsuc (number b)
tree_z _ = pos 0

-- decoding the code of an int returns the int
z_back : (z : ℤ) → tree_z (z_tree z) ≡ z
z_back (pos n) = refl
z_back (negsuc n) = refl

-- bytes as a code
abbrev text_tree : List ℕ → Gv
text_tree [] = gnil
text_tree (x ∷ xs) = gcons (gnum x) (text_tree xs)

-- the bytes of a code
abbrev tree_text : Gv → List ℕ
tree_text (gcons a b) = number a ∷ tree_text b
tree_text _ = []

-- decoding the code of bytes returns the bytes
text_back : (s : List ℕ) → tree_text (text_tree s) ≡ s
text_back [] = refl
text_back (x ∷ xs) = ap (λ r. x ∷ r) (text_back xs)

-- the bool that a number encodes
abbrev flag_of : ℕ → Bool
flag_of zero = false
flag_of (suc n) = true

-- a bool as a number
abbrev of_flag : Bool → ℕ
of_flag false = 0
of_flag true = 1

-- decoding the number of a bool returns the bool
flag_back : (b : Bool) → flag_of (of_flag b) ≡ b
flag_back false = refl
flag_back true = refl

abbrev mutual
  -- a value as a code
  value_tree : Value → Gv
  value_tree null = gnil
  value_tree (boolean b) = gnum (of_flag b)
  value_tree (int z) = gcons gnil (z_tree z)
  value_tree (text s) = gcons (gnum 0) (text_tree s)
  value_tree (list is) = gcons (gnum 1) (items_tree is)
  value_tree (map es) = gcons (gnum 2) (entries_tree es)

  -- items as a code
  items_tree : Items → Gv
  items_tree no_items = gnil
  items_tree (item v is) = gcons (value_tree v) (items_tree is)

  -- entries as a code
  entries_tree : Entries → Gv
  entries_tree no_entries = gnil
  entries_tree (entry k v es) = gcons (text_tree k) (gcons (value_tree v) (entries_tree es))

abbrev mutual
  -- the value that a code encodes
  tree_value : Gv → Value
  tree_value gnil = null
  tree_value (gnum n) = boolean (flag_of n)
  tree_value (gcons gnil z) = int (tree_z z)
  tree_value (gcons (gnum zero) s) = text (tree_text s)
  tree_value (gcons (gnum (suc zero)) is) = list (tree_items is)
  tree_value (gcons (gnum (suc (suc n))) es) = map (tree_entries es)
  tree_value (gcons (gcons a b) c) = null

  -- the items that a code encodes
  tree_items : Gv → Items
  tree_items (gcons a b) = item (tree_value a) (tree_items b)
  tree_items _ = no_items

  -- the entries that a code encodes
  tree_entries : Gv → Entries
  tree_entries (gcons k (gcons v es)) = entry (tree_text k) (tree_value v) (tree_entries es)
  tree_entries _ = no_entries

mutual
  -- decoding the code of a value returns the value
  value_back : (v : Value) → tree_value (value_tree v) ≡ v
  value_back null = refl
  value_back (boolean b) = ap boolean (flag_back b)
  value_back (int z) = ap int (z_back z)
  value_back (text s) = ap text (text_back s)
  value_back (list is) = ap list (items_back is)
  value_back (map es) = ap map (entries_back es)

  -- decoding the code of items returns the items
  items_back : (is : Items) → tree_items (items_tree is) ≡ is
  items_back no_items = refl
  items_back (item v is) = λ i. item (value_back v i) (items_back is i)

  -- decoding the code of entries returns the entries
  entries_back : (es : Entries) → tree_entries (entries_tree es) ≡ es
  entries_back no_entries = refl
  entries_back (entry k v es) = λ i. entry (text_back k i) (value_back v i) (entries_back es i)

-- the value or error at a reference, as a code
abbrev stored_tree : ValueOrError → Gv
stored_tree error = gnil
stored_tree (value v) = gcons (value_tree v) gnil

-- the value or error that a code encodes
abbrev tree_stored : Gv → ValueOrError
tree_stored (gcons v b) = value (tree_value v)
tree_stored _ = error

-- decoding the code of a value or error returns it
pub stored_back : (s : ValueOrError) → tree_stored (stored_tree s) ≡ s
stored_back error = refl
stored_back (value v) = ap value (value_back v)

-- the encoding of values and the error
abbrev pub coded_stored : Coded ValueOrError
coded_stored = code_by Gv itself stored_tree tree_stored stored_back
