-- Values, by hand from cel-spec's sections on equality and ordering, and from the definitions of sizes and depths.
use Rattle.std.specs.Prelude.{◌≡◌, true, false, pos, [], ◌∷◌, Some, None, Err, codes}
use Rattle.serde_json.specs.Data as json
use Rattle.value_store.specs.Calls.{parts_of}
use Rattle.value_store.specs.Documents.{document_given, equals_string, is_text, text_or_empty}
use Rattle.value_store.specs.Equality.{equal}
use Rattle.value_store.specs.Lookup.{text_part}
use Rattle.value_store.specs.Order.{less}
use Rattle.value_store.specs.Placing.{IsCanonicalAt}
use Rattle.value_store.specs.Reviews.{is_review, members_in, without}
use Rattle.value_store.specs.Roots.{is_root, start_contents}
use Rattle.value_store.specs.Seen.{outcome_view, sees_error, sees_null, sees_bool, sees_int, sees_text, sees_list, sees_map}
use Rattle.value_store.specs.Size.{depth_of, result_depth, result_size, size_of}
use Rattle.value_store.specs.Value as kind
use Rattle.value_store.specs.Value.{Value, null, boolean, int, text, list, no_items, item, no_entries, entry, error, items_of, value}
use Rattle.value_store.specs.declared.table_error.TableError.TheVariants.{NotAnObject}

-- {"a":v,"b":w}
abbrev pub two_entries : Value → Value → Value
two_entries v w = kind.map (entry (codes "a") v (entry (codes "b") w no_entries))

-- [v,w]
abbrev pub two_items : Value → Value → Value
two_items v w = list (item v (item w no_items))

-- values of one kind are equal part by part; ints and bools have an order (cel-spec, Equality and Ordering)
pub record EqualityRowsHold : Type 0 where
  pub one_text : equal (text (codes "a")) (text (codes "a")) ≡ true
  pub two_texts : equal (text (codes "a")) (text (codes "b")) ≡ false
  pub first_items : equal (two_items (int (pos 1)) null) (two_items (int (pos 2)) null) ≡ false
  pub second_items : equal (two_items null (int (pos 1))) (two_items null (int (pos 2))) ≡ false
  pub no_item_and_one : equal (list no_items) (list (item null no_items)) ≡ false
  pub first_values : equal (two_entries (int (pos 1)) null) (two_entries (int (pos 2)) null) ≡ false
  pub second_values : equal (two_entries null (int (pos 1))) (two_entries null (int (pos 2))) ≡ false
  pub no_entry_and_two : equal (kind.map no_entries) (two_entries null null) ≡ false
  pub two_entries_and_none : equal (two_entries null null) (kind.map no_entries) ≡ false
  pub null_and_falsehood : equal null (boolean false) ≡ false
  pub int_below_itself : less (int (pos 5)) (int (pos 5)) ≡ Some false
  pub greater_int : less (int (pos 6)) (int (pos 5)) ≡ Some false
  pub falsehoods : less (boolean false) (boolean false) ≡ Some false
  pub truth_and_falsehood : less (boolean true) (boolean false) ≡ Some false
  pub bytes_of_text : text_part (text (codes "a")) ≡ Some (codes "a")
  pub no_text : text_part null ≡ None

-- a value without parts has size 1 and depth 0; the deepest part counts, in each place
pub record SizeRowsHold : Type 0 where
  pub size_of_truth : size_of (boolean true) ≡ 1
  pub size_of_error : result_size error ≡ 1
  pub size_of_result : result_size (value (text (codes "ab"))) ≡ 3
  pub size_of_entries : size_of (two_entries (int (pos 1)) (text (codes "ab"))) ≡ 9
  pub depth_of_null : depth_of null ≡ 0
  pub depth_of_truth : depth_of (boolean true) ≡ 0
  pub depth_of_text : depth_of (text (codes "a")) ≡ 0
  pub depth_of_error : result_depth error ≡ 0
  pub depth_of_result : result_depth (value (list no_items)) ≡ 1
  pub depth_of_no_entries : depth_of (kind.map no_entries) ≡ 1
  pub deep_first_item : depth_of (two_items (list (item (list no_items) no_items)) null) ≡ 3
  pub deep_second_item : depth_of (two_items null (list (item (list no_items) no_items))) ≡ 3
  pub deep_first_value : depth_of (two_entries (list (item (list no_items) no_items)) null) ≡ 3
  pub deep_second_value : depth_of (two_entries null (list (item (list no_items) no_items))) ≡ 3

-- the outlines of values and their parts, and the references 0, 2 and 3 of the error, false and true
pub record OutlineRowsHold : Type 0 where
  pub of_error : outcome_view error ≡ sees_error
  pub of_null : outcome_view (value null) ≡ sees_null
  pub of_truth : outcome_view (value (boolean true)) ≡ sees_bool true
  pub of_int : outcome_view (value (int (pos 5))) ≡ sees_int (pos 5)
  pub of_text : outcome_view (value (text (codes "ab"))) ≡ sees_text (codes "ab")
  pub of_list : outcome_view (value (two_items null null)) ≡ sees_list 2
  pub of_map : outcome_view (value (two_entries null null)) ≡ sees_map 2
  pub parts_of_list : parts_of (two_items (int (pos 1)) null) ≡ int (pos 1) ∷ null ∷ []
  pub parts_of_map : parts_of (two_entries (int (pos 1)) null) ≡ int (pos 1) ∷ null ∷ []
  pub parts_of_text : parts_of (text (codes "a")) ≡ []
  pub one_item : items_of (null ∷ []) ≡ item null no_items
  pub error_at_0 : IsCanonicalAt error 0
  pub error_elsewhere : IsCanonicalAt error 1 → ⊥
  pub falsehood_at_2 : IsCanonicalAt (value (boolean false)) 2
  pub falsehood_elsewhere : IsCanonicalAt (value (boolean false)) 3 → ⊥
  pub truth_at_3 : IsCanonicalAt (value (boolean true)) 3
  pub truth_elsewhere : IsCanonicalAt (value (boolean true)) 2 → ⊥
  pub null_anywhere : IsCanonicalAt (value null) 7

-- an object with an `apiVersion` and a `kind`
abbrev pub document_of_kind : json.Data → json.Data → json.Data
document_of_kind version name =
    json.object (json.member (codes "apiVersion") version (json.member (codes "kind") name json.no_members))

-- documents of reviews and roots: a review has the version and the kind of an AdmissionReview, a request a uid, and a
-- root is an object or null
pub record DocumentRowsHold : Type 0 where
  pub review : is_review (document_of_kind (json.string (codes "admission.k8s.io/v1")) (json.string (codes "AdmissionReview"))) ≡ true
  pub other_version : is_review (document_of_kind (json.string (codes "admission.k8s.io/v1beta1")) (json.string (codes "AdmissionReview")))
      ≡ false
  pub other_kind : is_review (document_of_kind (json.string (codes "admission.k8s.io/v1")) (json.string (codes "AdmissionRequest"))) ≡ false
  pub no_uid : members_in (json.object json.no_members) ≡ None
  pub no_request : members_in json.null ≡ None
  pub with_uid : members_in (json.object (json.member (codes "uid") (json.string []) json.no_members))
      ≡ Some (json.member (codes "uid") (json.string []) json.no_members)
  pub without_first : without (codes "a") (json.member (codes "a") json.null (json.member (codes "b") json.null json.no_members))
      ≡ json.member (codes "b") json.null json.no_members
  pub without_second : without (codes "b") (json.member (codes "a") json.null (json.member (codes "b") json.null json.no_members))
      ≡ json.member (codes "a") json.null json.no_members
  pub is_string : is_text (Some (json.string (codes "a"))) ≡ true
  pub is_no_string : is_text (Some json.null) ≡ false
  pub is_nothing : is_text None ≡ false
  pub string : text_or_empty (Some (json.string (codes "a"))) ≡ codes "a"
  pub no_string : text_or_empty (Some json.null) ≡ []
  pub same_string : equals_string (Some (json.string (codes "a"))) (codes "a") ≡ true
  pub other_string : equals_string (Some (json.string (codes "a"))) (codes "b") ≡ false
  pub nothing_equals : equals_string None [] ≡ false
  pub none_given : document_given None ≡ Some json.null
  pub root_of_null : is_root json.null ≡ true
  pub root_of_object : is_root (json.object json.no_members) ≡ true
  pub root_of_string : is_root (json.string []) ≡ false
  pub root_of_array : is_root (json.array json.no_items) ≡ false
  pub root_of_truth : is_root (json.boolean true) ≡ false
  -- the first root has the reference 4
  pub first_root : start_contents (json.boolean true ∷ []) ≡ Err (NotAnObject 4)
  pub root_of_number : is_root (json.number (json.unsigned 1)) ≡ false
