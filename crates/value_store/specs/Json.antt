-- The JSON text of a value (RFC 8259): compact, the keys in byte order, with the escapes of
-- `serde_json`.
use Rattle.std.specs.Prelude.{ℕ, ◌^◌, List, [], ◌++◌, Bool, true, false, if◌then◌else◌, codes, length, min}
use Rattle.std.specs.Fmt.{signed_decimal}
use Rattle.json.specs.Print.{quoted}
use Rattle.value_store.specs.Value.{Value, null, boolean, int, text, list, map, Items, no_items, item, Entries, no_entries, entry, ValueOrError, error, value}

-- a comma, if an item or entry precedes
abbrev pub comma_after : Bool → List ℕ
comma_after later = if later then codes "," else []

abbrev mutual
  -- the text of a value: a literal name, a number, a string, an array or an object (RFC 8259, section 3)
  pub json_text : Value → List ℕ
  json_text null = codes "null"
  json_text (boolean b) = if b then codes "true" else codes "false"
  json_text (int n) = signed_decimal n
  json_text (text s) = quoted s
  json_text (list is) = codes "[" ++ items_text false is
  json_text (map es) = codes "{" ++ entries_text false es

  -- the items and the closing bracket; `later` if an item precedes (RFC 8259, section 5)
  pub items_text : Bool → Items → List ℕ
  items_text later no_items = codes "]"
  items_text later (item v is) = comma_after later ++ (json_text v ++ items_text true is)

  -- the entries and the closing brace; `later` if an entry precedes (RFC 8259, section 4)
  pub entries_text : Bool → Entries → List ℕ
  entries_text later no_entries = codes "}"
  entries_text later (entry k v es) = comma_after later ++ (quoted k ++ (codes ":" ++ (json_text v ++ entries_text true es)))

-- the value at a reference as JSON, `error` for the error
abbrev pub shown_text : ValueOrError → List ℕ
shown_text error = codes "error"
shown_text (value v) = json_text v

-- the length of that text in bytes; one above 2 ^ 62 counts as 2 ^ 62, so that the sum of two fits a word
abbrev pub json_length : ValueOrError → ℕ
json_length x = min (length (shown_text x)) (2 ^ 62)
