-- Members of objects, and values with some of their parts changed.
use Rattle.std.specs.Prelude.{ℕ, List, [], ◌∷◌, Option, Some, None, bytes_eq, option_map, if◌then◌else◌}
use Rattle.serde_json.specs.Data as json
use Rattle.serde_json.specs.Find.{get_member}
use Rattle.json_fields.specs.Fields.{is_absent}

-- ---- members

-- the members with other keys
abbrev pub others : List ℕ → json.Members → json.Members
others key json.no_members = json.no_members
others key (json.member k d ms) = if bytes_eq key k then others key ms else json.member k d (others key ms)

-- the members without this key, if its value is null
abbrev pub without_null : List ℕ → json.Members → json.Members
without_null key ms = if is_absent (get_member key ms) then others key ms else ms

-- the members without those of these keys whose values are null
abbrev pub without_nulls : List (List ℕ) → json.Members → json.Members
without_nulls [] ms = ms
without_nulls (key ∷ keys) ms = without_nulls keys (without_null key ms)

-- the members with this value at the key, if there is one
abbrev pub put_if : List ℕ → Option json.Data → json.Members → json.Members
put_if key None ms = ms
put_if key (Some d) ms = json.put key d ms

-- the members with the value at this key changed, if the key is there
abbrev pub changed : List ℕ → (json.Data → json.Data) → json.Members → json.Members
changed key f ms = put_if key (option_map f (get_member key ms)) ms

-- ---- values

-- an object with its members changed
abbrev pub in_object : (json.Members → json.Members) → json.Data → json.Data
in_object f json.null = json.null
in_object f (json.boolean b) = json.boolean b
in_object f (json.number n) = json.number n
in_object f (json.string s) = json.string s
in_object f (json.array ds) = json.array ds
in_object f (json.object ms) = json.object (f ms)

abbrev pub each_changed : (json.Data → json.Data) → json.Items → json.Items
each_changed f json.no_items = json.no_items
each_changed f (json.item d ds) = json.item (f d) (each_changed f ds)

-- an array with its items changed
abbrev pub in_array : (json.Data → json.Data) → json.Data → json.Data
in_array f json.null = json.null
in_array f (json.boolean b) = json.boolean b
in_array f (json.number n) = json.number n
in_array f (json.string s) = json.string s
in_array f (json.array ds) = json.array (each_changed f ds)
in_array f (json.object ms) = json.object ms
