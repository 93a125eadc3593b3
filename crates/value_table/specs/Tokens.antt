-- The tokens of a value's JSON text.
use Rattle.std.specs.Prelude.{ℕ, List, [], ◌∷◌, ◌++◌}
use Rattle.std.specs.Fmt.{signed_decimal}
use Rattle.json.specs.Token as json
use Rattle.json.specs.Token.{Token}
use Rattle.value_store.specs.Value.{Value, null, boolean, int, text, list, map, Items, no_items, item, Entries, no_entries, entry}
use Rattle.value_table.specs.Heads.{Head, simple, items, entries}

abbrev mutual
  pub value_tokens : Value → List Token
  value_tokens null = json.null ∷ []
  value_tokens (boolean b) = json.boolean b ∷ []
  value_tokens (int n) = json.number (signed_decimal n) ∷ []
  value_tokens (text s) = json.string s ∷ []
  value_tokens (list is) = json.begin_array ∷ (items_tokens is ++ json.end_array ∷ [])
  value_tokens (map es) = json.begin_object ∷ (entries_tokens es ++ json.end_object ∷ [])

  pub items_tokens : Items → List Token
  items_tokens no_items = []
  items_tokens (item v more) = value_tokens v ++ items_tokens more

  pub entries_tokens : Entries → List Token
  entries_tokens no_entries = []
  entries_tokens (entry k v more) = json.key k ∷ (value_tokens v ++ entries_tokens more)

-- the tokens before a value's parts
abbrev pub opening : Head → List Token
opening (simple v) = value_tokens v
opening (items n) = json.begin_array ∷ []
opening (entries ks) = json.begin_object ∷ []

abbrev pub closing : Head → List Token
closing (simple v) = []
closing (items n) = json.end_array ∷ []
closing (entries ks) = json.end_object ∷ []

-- the tokens of the parts, each after its key if it has one
abbrev pub row_tokens : List (List ℕ) → List Value → List Token
row_tokens ks [] = []
row_tokens [] (v ∷ vs) = value_tokens v ++ row_tokens [] vs
row_tokens (k ∷ ks) (v ∷ vs) = json.key k ∷ (value_tokens v ++ row_tokens ks vs)

abbrev pub head_keys : Head → List (List ℕ)
head_keys (simple v) = []
head_keys (items n) = []
head_keys (entries ks) = ks

-- the token of the first key, if there is one
abbrev pub name_tokens : List (List ℕ) → List Token
name_tokens [] = []
name_tokens (k ∷ ks) = json.key k ∷ []
