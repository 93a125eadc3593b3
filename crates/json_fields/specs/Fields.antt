-- Fields of JSON documents, as `serde_json` reads them. A `field` of the Kubernetes API that is null counts as absent.
use Rattle.std.specs.Prelude.{ℕ, ◌&&◌, Bool, true, false, List, [], ◌∷◌, Option, Some, None, is_none}
use Rattle.std.specs.List.{list_any}
use Rattle.std.specs.Str.{bytes_eq}
use Rattle.serde_json.specs.Data as json
use Rattle.serde_json.specs.Find.{get}

-- the value, if it is present and not null
abbrev pub present : Option json.Data → Option json.Data
present None = None
present (Some json.null) = None
present (Some (json.boolean b)) = Some (json.boolean b)
present (Some (json.number n)) = Some (json.number n)
present (Some (json.string s)) = Some (json.string s)
present (Some (json.array ds)) = Some (json.array ds)
present (Some (json.object ms)) = Some (json.object ms)

-- the field with this name
unfoldable pub field : List ℕ → json.Data → Option json.Data
field name d = present (get name d)

-- the field of an optional object
abbrev pub field_of : List ℕ → Option json.Data → Option json.Data
field_of name None = None
field_of name (Some d) = field name d

-- the field is missing or null
abbrev pub is_absent : Option json.Data → Bool
is_absent o = is_none (present o)

-- missing, or an object
abbrev pub is_object_or_absent : Option json.Data → Bool
is_object_or_absent None = true
is_object_or_absent (Some (json.object ms)) = true
is_object_or_absent (Some _) = false

-- ---- keys

-- all keys are in the list
abbrev pub keys_within : List (List ℕ) → json.Members → Bool
keys_within known json.no_members = true
keys_within known (json.member k d ms) = list_any (bytes_eq k) known && keys_within known ms

-- the value is an object, and all its keys are in the list
abbrev pub has_only : List (List ℕ) → json.Data → Bool
has_only known (json.object ms) = keys_within known ms
has_only known _ = false

-- ---- texts

-- a required text
abbrev pub text_of : Option json.Data → Option (List ℕ)
text_of (Some (json.string s)) = Some s
text_of _ = None

-- an optional text, empty if it is absent
abbrev pub text_or_empty_of : Option json.Data → Option (List ℕ)
text_or_empty_of None = Some []
text_or_empty_of (Some (json.string s)) = Some s
text_or_empty_of (Some _) = None

-- an optional text
abbrev pub optional_text_of : Option json.Data → Option (Option (List ℕ))
optional_text_of None = Some None
optional_text_of (Some (json.string s)) = Some (Some s)
optional_text_of (Some _) = None

-- ---- lists

abbrev pub items_list : json.Items → List json.Data
items_list json.no_items = []
items_list (json.item d ds) = d ∷ items_list ds

-- an array
abbrev pub array_of : Option json.Data → Option (List json.Data)
array_of (Some (json.array ds)) = Some (items_list ds)
array_of _ = None

-- the list with this first element, if both are there
abbrev pub cons_if : {A : Type 0} → Option A → Option (List A) → Option (List A)
cons_if (Some a) (Some rest) = Some (a ∷ rest)
cons_if _ _ = None

-- the results for all items, if each item has one
abbrev pub each : {A : Type 0} → (json.Data → Option A) → json.Items → Option (List A)
each part json.no_items = Some []
each part (json.item d ds) = cons_if (part d) (each part ds)

-- the results for all items of a required list
abbrev pub list_in : {A : Type 0} → (json.Data → Option A) → Option json.Data → Option (List A)
list_in part (Some (json.array ds)) = each part ds
list_in part _ = None

-- the results for all items of an optional list, empty if it is absent
abbrev pub list_of : {A : Type 0} → (json.Data → Option A) → Option json.Data → Option (List A)
list_of part None = Some []
list_of part (Some (json.array ds)) = each part ds
list_of part (Some _) = None

-- an item, if it is a text
abbrev pub text_in : json.Data → Option (List ℕ)
text_in (json.string s) = Some s
text_in _ = None

-- an optional list of texts
unfoldable pub texts_of : Option json.Data → Option (List (List ℕ))
texts_of o = list_of text_in o
