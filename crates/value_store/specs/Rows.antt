-- Values worked out by hand.
use Rattle.std.specs.Prelude.{◌≡◌, ℕ, ◌++◌, pos, negsuc, List, [], ◌∷◌, true, false, Some, None, Ok, Err, Float, codes, map}
use Rattle.serde_json.specs.Data as json
use Rattle.value_store.specs.Value as kind
use Rattle.value_store.specs.Value.{Value, null, boolean, int, text, list, no_items, item, Entries, no_entries, entry, ValueOrError, error, value}
use Rattle.value_store.specs.Size.{size_of, depth_of}
use Rattle.value_store.specs.Equality.{equal}
use Rattle.value_store.specs.Order.{less}
use Rattle.value_store.specs.Lookup.{find, place_of_key, member, inserted}
use Rattle.value_store.specs.Keys.{IsOrdered, IsDocumentOrdered}
use Rattle.value_store.specs.Placing.{first_values, is_appended, place, placed}
use Rattle.value_store.specs.Json.{json_length, json_text, shown_text}
use Rattle.value_store.specs.Roots.{root_of, start_contents}
use Rattle.value_store.specs.declared.table_error.TableError.TheVariants.{NotAnObject, NumberOutOfInt64}

-- {"spec":{"replicas":5}}
abbrev pub replicas : Value
replicas = kind.map (entry (codes "spec") (kind.map (entry (codes "replicas") (int (pos 5)) no_entries)) no_entries)

-- {"uid":"u1"}
abbrev pub uid : Value
uid = kind.map (entry (codes "uid") (text (codes "u1")) no_entries)

-- é in UTF-8, as are the next three
abbrev pub e_acute : List ℕ
e_acute = 195 ∷ 169 ∷ []

-- U+FFFF
abbrev pub last_of_plane : List ℕ
last_of_plane = 239 ∷ 191 ∷ 191 ∷ []

-- U+10000
abbrev pub linear_b : List ℕ
linear_b = 240 ∷ 144 ∷ 128 ∷ 128 ∷ []

-- U+1F600
abbrev pub grinning : List ℕ
grinning = 240 ∷ 159 ∷ 152 ∷ 128 ∷ []

-- "a":1 and "b":null
abbrev pub a_and_b : Entries
a_and_b = entry (codes "a") (int (pos 1)) (entry (codes "b") null no_entries)

-- [[],[1]]
abbrev pub nested : Value
nested = list (item (list no_items) (item (list (item (int (pos 1)) no_items)) no_items))

-- the least int
abbrev pub least : Value
least = int (negsuc 9223372036854775807)

-- the greatest int
abbrev pub greatest : Value
greatest = int (pos 9223372036854775807)

-- the first four values followed by these
abbrev pub behind : List ValueOrError → List ValueOrError
behind vs = first_values ++ vs

-- {"a":d}
abbrev pub with_a : json.Data → json.Data
with_a d = json.object (json.member (codes "a") d json.no_members)

-- {"b":null,"a":1}, which is not in the order of keys
abbrev pub b_before_a : Value
b_before_a = kind.map (entry (codes "b") null (entry (codes "a") (int (pos 1)) no_entries))

-- {"a":null,"a":null}, which has a key twice
abbrev pub a_twice : Value
a_twice = kind.map (entry (codes "a") null (entry (codes "a") null no_entries))

-- {"spec":{"replicas":5}}
abbrev pub replicas_document : json.Data
replicas_document =
    json.object
    (json.member (codes "spec") (json.object (json.member (codes "replicas") (json.number (json.unsigned 5)) json.no_members))
    json.no_members)

-- {"uid":"u1"}
abbrev pub uid_document : json.Data
uid_document = json.object (json.member (codes "uid") (json.string (codes "u1")) json.no_members)

-- three roots that are null
abbrev pub nulls : List json.Data
nulls = json.null ∷ json.null ∷ json.null ∷ []

-- values, calls and documents, each with its result worked out by hand
pub record StoreRowsHold : Type 0 where
  pub size_null : size_of null ≡ 1
  pub size_least : size_of least ≡ 1
  pub size_text : size_of (text e_acute) ≡ 3
  pub size_map : size_of replicas ≡ 17
  pub size_uid : size_of uid ≡ 8
  pub size_nested : size_of nested ≡ 4
  pub depth_int : depth_of (int (pos 5)) ≡ 0
  pub depth_empty : depth_of (list no_items) ≡ 1
  pub depth_map : depth_of replicas ≡ 2
  pub depth_nested : depth_of nested ≡ 2
  pub equal_maps : equal replicas replicas ≡ true
  pub equal_kinds : equal (boolean true) (int (pos 1)) ≡ false
  pub equal_lists : equal (list (item null no_items)) (list no_items) ≡ false
  pub equal_nested : equal nested nested ≡ true
  pub equal_signs : equal (int (negsuc 0)) (int (pos 0)) ≡ false
  pub equal_falsehoods : equal (boolean false) (boolean false) ≡ true
  pub equal_truths : equal (boolean true) (boolean true) ≡ true
  pub truth_and_falsehood : equal (boolean true) (boolean false) ≡ false
  pub falsehood_and_truth : equal (boolean false) (boolean true) ≡ false
  pub one_key_two_values :
      equal (kind.map (entry (codes "a") null no_entries)) (kind.map (entry (codes "a") (boolean true) no_entries)) ≡ false
  pub one_value_two_keys : equal (kind.map (entry (codes "a") null no_entries)) (kind.map (entry (codes "b") null no_entries)) ≡ false
  pub equal_ints_below_zero : equal (int (negsuc 1)) (int (negsuc 1)) ≡ true
  pub unequal_ints_below_zero : equal (int (negsuc 1)) (int (negsuc 0)) ≡ false
  pub less_ints : less least greatest ≡ Some true
  pub less_negative : less (int (negsuc 0)) (int (pos 0)) ≡ Some true
  pub less_truths : less (boolean false) (boolean true) ≡ Some true
  pub less_equal_truths : less (boolean true) (boolean true) ≡ Some false
  -- by code points: the longer text can be the lesser, and the order of UTF-16 differs
  pub less_longer : less (text (codes "ab")) (text (codes "b")) ≡ Some true
  pub less_texts : less (text last_of_plane) (text linear_b) ≡ Some true
  pub less_prefix : less (text (codes "a")) (text (codes "ab")) ≡ Some true
  pub less_same : less (text e_acute) (text e_acute) ≡ Some false
  pub less_nulls : less null null ≡ None
  pub less_kinds : less (int (pos 1)) (text (codes "1")) ≡ None
  pub find_there : find (codes "b") a_and_b ≡ Some null
  pub find_missing : find (codes "c") a_and_b ≡ None
  pub find_place : place_of_key (codes "b") a_and_b ≡ Some 1
  pub member_list : member null (list (item (int (pos 1)) (item null no_items))) ≡ Some true
  pub member_deep : member (list no_items) nested ≡ Some true
  pub member_map : member (text (codes "a")) (kind.map a_and_b) ≡ Some true
  pub member_value : member null (kind.map a_and_b) ≡ None
  pub member_text : member (text (codes "a")) (text (codes "a")) ≡ None
  pub inserted_before : inserted (codes "a") (int (pos 1)) (entry (codes "b") null no_entries) ≡ Some a_and_b
  pub inserted_behind : inserted (codes "b") null (entry (codes "a") (int (pos 1)) no_entries) ≡ Some a_and_b
  pub inserted_upper_case : inserted (codes "Z") null (entry (codes "a") null no_entries)
      ≡ Some (entry (codes "Z") null (entry (codes "a") null no_entries))
  pub inserted_twice : inserted (codes "b") null a_and_b ≡ None
  pub ordered_two : IsOrdered (kind.map a_and_b)
  -- Z is before a, U+FFFF before U+10000, a before ab
  pub ordered_letters : IsOrdered (kind.map (entry (codes "Z") null (entry (codes "a") null (entry (codes "ab") null no_entries))))
  pub ordered_planes : IsOrdered (kind.map (entry last_of_plane null (entry linear_b null no_entries)))
  pub unordered_two : IsOrdered b_before_a → ⊥
  pub unordered_twice : IsOrdered a_twice → ⊥
  pub unordered_inside : IsOrdered (list (item null (item (kind.map (entry (codes "a") b_before_a no_entries)) no_items))) → ⊥
  pub unordered_far : IsOrdered (kind.map (entry (codes "b") null (entry (codes "c") null (entry (codes "a") null no_entries)))) → ⊥
  pub ordered_document : IsDocumentOrdered replicas_document
  pub unordered_document : IsDocumentOrdered
      (json.object (json.member (codes "b") json.null (json.member (codes "a") json.null json.no_members)))
      → ⊥
  pub appended : (is_appended null ≡ false) × (is_appended (boolean true) ≡ false) × (is_appended (boolean false) ≡ false)
      × (is_appended (int (pos 0)) ≡ true) × (is_appended (list no_items) ≡ true)
  pub placed_null : (place first_values null ≡ 1) × (placed first_values null ≡ first_values)
  pub placed_false : (place first_values (boolean false) ≡ 2) × (placed first_values (boolean false) ≡ first_values)
  pub placed_true : (place first_values (boolean true) ≡ 3) × (placed first_values (boolean true) ≡ first_values)
  pub placed_text : (place first_values (text (codes "a")) ≡ 4)
      × (placed first_values (text (codes "a")) ≡ behind (value (text (codes "a")) ∷ []))
  pub placed_again : place (behind (value (text (codes "a")) ∷ [])) (text (codes "a")) ≡ 5
  pub json_map : json_text replicas ≡ codes "{\"spec\":{\"replicas\":5}}"
  pub json_null : json_text null ≡ codes "null"
  pub json_uid : json_text uid ≡ codes "{\"uid\":\"u1\"}"
  pub json_nested : json_text nested ≡ codes "[[],[1]]"
  pub json_two : json_text (kind.map a_and_b) ≡ codes "{\"a\":1,\"b\":null}"
  pub json_truths : json_text (list (item (boolean true) (item (boolean false) no_items))) ≡ codes "[true,false]"
  pub json_ends : json_text (list (item least (item greatest no_items))) ≡ codes "[-9223372036854775808,9223372036854775807]"
  pub json_accent : json_text (text e_acute) ≡ 34 ∷ 195 ∷ 169 ∷ 34 ∷ []
  pub json_face : json_text (text grinning) ≡ 34 ∷ 240 ∷ 159 ∷ 152 ∷ 128 ∷ 34 ∷ []
  pub json_quote : json_text (text (34 ∷ [])) ≡ codes "\"\\\"\""
  pub json_backslash : json_text (text (92 ∷ [])) ≡ codes "\"\\\\\""
  pub json_line_feed : json_text (text (10 ∷ [])) ≡ codes "\"\\n\""
  pub json_control : json_text (text (1 ∷ [])) ≡ codes "\"\\u0001\""
  pub json_key : json_text (kind.map (entry (34 ∷ []) null no_entries)) ≡ codes "{\"\\\"\":null}"
  pub length_error : json_length error ≡ 5
  pub length_map : json_length (value (kind.map a_and_b)) ≡ 16
  pub length_line_feed : json_length (value (text (10 ∷ []))) ≡ 4
  pub shown_error : shown_text error ≡ codes "error"
  pub root_null : root_of 4 json.null ≡ Ok null
  pub root_object : root_of 4 replicas_document ≡ Ok replicas
  pub root_number : root_of 7 (json.number (json.unsigned 1)) ≡ Err (NotAnObject 7)
  pub root_truth : root_of 4 (with_a (json.boolean true)) ≡ Ok (kind.map (entry (codes "a") (boolean true) no_entries))
  pub root_falsehood : root_of 4 (with_a (json.boolean false)) ≡ Ok (kind.map (entry (codes "a") (boolean false) no_entries))
  pub root_list : root_of 5 (json.array json.no_items) ≡ Err (NotAnObject 5)
  -- 1.5 and -0 are floats
  pub root_float : (x : Float) → root_of 4 (with_a (json.number (json.float x))) ≡ Err (NumberOutOfInt64 4)
  pub root_large : root_of 8 (with_a (json.number (json.unsigned 9223372036854775808))) ≡ Err (NumberOutOfInt64 8)
  pub root_greatest : root_of 8 (with_a (json.number (json.unsigned 9223372036854775807)))
      ≡ Ok (kind.map (entry (codes "a") greatest no_entries))
  pub root_deep : root_of 6 (with_a (json.array (json.item (json.number (json.unsigned 9223372036854775808)) json.no_items)))
      ≡ Err (NumberOutOfInt64 6)
  pub start_nulls : start_contents (json.null ∷ json.null ∷ nulls)
      ≡ Ok (record { values = behind (map value (null ∷ null ∷ null ∷ null ∷ null ∷ [])); charge = 5 })
  pub start_review : start_contents (replicas_document ∷ nulls ++ uid_document ∷ [])
      ≡ Ok (record { values = behind (map value (replicas ∷ null ∷ null ∷ null ∷ uid ∷ [])); charge = 28 })
  -- the first invalid root decides, at any position
  pub start_first : (x : Float)
      → start_contents (json.null ∷ with_a (json.number (json.float x)) ∷ json.boolean true ∷ json.null ∷ json.null ∷ [])
      ≡ Err (NumberOutOfInt64 5)
  pub start_second : (x : Float)
      → start_contents (json.null ∷ json.boolean true ∷ with_a (json.number (json.float x)) ∷ json.null ∷ json.null ∷ [])
      ≡ Err (NotAnObject 5)
