-- Calls worked out by hand, on the error, fifteen values and five constants.
use Rattle.std.specs.Prelude.{◌≡◌, ℕ, zero, suc, ◌+◌, pos, negsuc, true, List, [], ◌∷◌, ◌++◌, codes}
use Rattle.guest_memory.specs.declared.fault.Fault.TheVariants.{F3, F5, F6, F8}
use Rattle.value_store.specs.Placing.{first_values}
use Rattle.value_store.specs.Value.{Value, null, boolean, int, text, list, map, no_items, item, no_entries, entry, ValueOrError, value}
use Rattle.helper_table.specs.Calls.{outcome_of, helper_row}
use Rattle.helper_table.specs.Outcome.{RowOutcome, Plain, Named, Refused, Gives, Leaves, Halts, charged}

-- é in UTF-8
abbrev pub e_acute : List ℕ
e_acute = 195 ∷ 169 ∷ []

-- a list in a list, n times: of depth n + 1
abbrev pub nested : ℕ → Value
nested zero = list no_items
nested (suc n) = list (item (nested n) no_items)

-- [7, true, null]
abbrev pub three : Value
three = list (item (int (pos 7)) (item (boolean true) (item null no_items)))

-- {"k": 9, "t": true}
abbrev pub two : Value
two = map (entry (codes "k") (int (pos 9)) (entry (codes "t") (boolean true) no_entries))

-- the error, null, false and true at 0 to 3, and these from 4 on
abbrev pub values : List ValueOrError
values =
    first_values
    ++ (value (int (pos 5))
    ∷ value (text (codes "a" ++ e_acute))
    ∷ value three
    ∷ value two
    ∷ value (int (negsuc 0))
    ∷ value (text (codes "k"))
    ∷ value (text (codes "a"))
    ∷ value (int (pos 1))
    ∷ value (text e_acute)
    ∷ value (list no_items)
    ∷ value (nested 253)
    ∷ value (nested 254)
    ∷ [])

-- the bytes k, t, those of é, and one that is not valid in UTF-8
abbrev pub constants : List ℕ
constants = 107 ∷ 116 ∷ 195 ∷ 169 ∷ 255 ∷ []

-- the first address of the constants
abbrev pub base : ℕ
base = 0x4_0000_0000

-- the outcome of the helper with this number for these arguments
abbrev pub says : ℕ → List ℕ → RowOutcome
says number args = outcome_of (pos number) args values constants

-- outcomes of the helpers for kinds and conversions
pub record ConversionRows : Type 0 where
  -- 1, kind
  pub kind_error : says 1 (0 ∷ []) ≡ Plain 0 0
  pub kind_null : says 1 (1 ∷ []) ≡ Plain 1 0
  pub kind_truth : says 1 (2 ∷ []) ≡ Plain 2 0
  pub kind_int : says 1 (4 ∷ []) ≡ Plain 3 0
  pub kind_text : says 1 (5 ∷ []) ≡ Plain 4 0
  pub kind_list : says 1 (6 ∷ []) ≡ Plain 5 0
  pub kind_map : says 1 (7 ∷ []) ≡ Plain 6 0
  -- 2, int_of
  pub int_of_positive : says 2 (4 ∷ []) ≡ Plain 5 0
  pub int_of_negative : says 2 (8 ∷ []) ≡ Plain 0xffff_ffff_ffff_ffff 0
  pub int_of_text : says 2 (5 ∷ []) ≡ Plain 0 0
  -- 3, int_new
  pub int_new_positive : says 3 (5 ∷ []) ≡ Named (int (pos 5)) 0
  pub int_new_negative : says 3 (0xffff_ffff_ffff_ffff ∷ []) ≡ Named (int (negsuc 0)) 0
  -- 4, text_const
  pub text_const_utf8 : says 4 ((base + 2) ∷ 2 ∷ []) ≡ Named (text e_acute) 2
  pub text_const_cut : says 4 ((base + 2) ∷ 1 ∷ []) ≡ Plain 0 0
  pub text_const_other : says 4 ((base + 4) ∷ 1 ∷ []) ≡ Plain 0 0
  pub text_const_empty : says 4 (0 ∷ 0 ∷ []) ≡ Named (text []) 0
  pub text_const_outside : says 4 ((base + 4) ∷ 2 ∷ []) ≡ Refused F3
  -- 22, text_of_int
  pub text_of_int : says 22 (8 ∷ []) ≡ Named (text (codes "-1")) 2
  pub text_of_text : says 22 (9 ∷ []) ≡ Plain 0 0
  -- 23, not
  pub not_false : says 23 (2 ∷ []) ≡ Plain 3 0
  pub not_true : says 23 (3 ∷ []) ≡ Plain 2 0
  pub not_null : says 23 (1 ∷ []) ≡ Plain 0 0

-- outcomes of the helpers for lookups
pub record LookupRows : Type 0 where
  -- 5, field
  pub field_there : says 5 (7 ∷ base ∷ 1 ∷ []) ≡ Named (int (pos 9)) 0
  pub field_true : says 5 (7 ∷ (base + 1) ∷ 1 ∷ []) ≡ Named (boolean true) 0
  pub field_missing : says 5 (7 ∷ (base + 2) ∷ 2 ∷ []) ≡ Plain 0 0
  pub field_of_list : says 5 (6 ∷ base ∷ 1 ∷ []) ≡ Plain 0 0
  pub field_no_utf8 : says 5 (7 ∷ (base + 4) ∷ 1 ∷ []) ≡ Plain 0 0
  pub field_outside : says 5 (7 ∷ 0 ∷ 1 ∷ []) ≡ Refused F3
  -- 6, has
  pub has_there : says 6 (7 ∷ base ∷ 1 ∷ []) ≡ Plain 3 0
  pub has_missing : says 6 (7 ∷ (base + 2) ∷ 2 ∷ []) ≡ Plain 2 0
  pub has_of_text : says 6 (5 ∷ base ∷ 1 ∷ []) ≡ Plain 0 0
  -- 7, index
  pub index_list : says 7 (6 ∷ 11 ∷ []) ≡ Named (boolean true) 0
  pub index_past : says 7 (6 ∷ 4 ∷ []) ≡ Plain 0 0
  pub index_negative : says 7 (6 ∷ 8 ∷ []) ≡ Plain 0 0
  pub index_map : says 7 (7 ∷ 9 ∷ []) ≡ Named (int (pos 9)) 0
  pub index_missing : says 7 (7 ∷ 5 ∷ []) ≡ Plain 0 0
  pub index_list_by_text : says 7 (6 ∷ 9 ∷ []) ≡ Plain 0 0
  pub index_map_by_int : says 7 (7 ∷ 11 ∷ []) ≡ Plain 0 0
  pub index_text : says 7 (5 ∷ 11 ∷ []) ≡ Plain 0 0
  -- 8, size
  pub size_text : says 8 (5 ∷ []) ≡ Named (int (pos 2)) 0
  pub size_list : says 8 (6 ∷ []) ≡ Named (int (pos 3)) 0
  pub size_map : says 8 (7 ∷ []) ≡ Named (int (pos 2)) 0
  pub size_int : says 8 (4 ∷ []) ≡ Plain 0 0
  -- 20, item
  pub item_list : says 20 (6 ∷ 0 ∷ []) ≡ Named (int (pos 7)) 0
  pub item_past : says 20 (6 ∷ 3 ∷ []) ≡ Plain 0 0
  pub item_key : says 20 (7 ∷ 1 ∷ []) ≡ Named (text (codes "t")) 0
  pub item_past_keys : says 20 (7 ∷ 2 ∷ []) ≡ Plain 0 0
  pub item_of_int : says 20 (4 ∷ 0 ∷ []) ≡ Plain 0 0
  -- 21, count
  pub count_list : says 21 (6 ∷ []) ≡ Plain 3 0
  pub count_map : says 21 (7 ∷ []) ≡ Plain 2 0
  pub count_text : says 21 (5 ∷ []) ≡ Plain 0xffff_ffff_ffff_ffff 0

-- outcomes of the helpers for comparisons
pub record ComparisonHelperRows : Type 0 where
  -- 9, equal
  pub equal_same : says 9 (6 ∷ 6 ∷ []) ≡ Plain 3 0
  pub equal_other : says 9 (4 ∷ 8 ∷ []) ≡ Plain 2 0
  pub equal_kinds : says 9 (3 ∷ 11 ∷ []) ≡ Plain 2 0
  pub equal_error : says 9 (0 ∷ 4 ∷ []) ≡ Plain 0 0
  pub equal_to_error : says 9 (4 ∷ 0 ∷ []) ≡ Plain 0 0
  -- 10, less
  pub less_ints : says 10 (8 ∷ 4 ∷ []) ≡ Plain 3 0
  pub less_texts : says 10 (10 ∷ 5 ∷ []) ≡ Plain 3 0
  pub less_by_length : says 10 (9 ∷ 5 ∷ []) ≡ Plain 2 0
  pub less_truths : says 10 (2 ∷ 3 ∷ []) ≡ Plain 3 0
  pub less_same : says 10 (3 ∷ 3 ∷ []) ≡ Plain 2 0
  pub less_nulls : says 10 (1 ∷ 1 ∷ []) ≡ Plain 0 0
  pub less_kinds : says 10 (4 ∷ 5 ∷ []) ≡ Plain 0 0
  pub less_error : says 10 (0 ∷ 4 ∷ []) ≡ Plain 0 0
  -- 12, starts
  pub starts_true : says 12 (5 ∷ 10 ∷ []) ≡ Plain 3 0
  pub starts_false : says 12 (10 ∷ 5 ∷ []) ≡ Plain 2 0
  pub starts_int : says 12 (5 ∷ 4 ∷ []) ≡ Plain 0 0
  -- 13, ends
  pub ends_true : says 13 (5 ∷ 12 ∷ []) ≡ Plain 3 0
  pub ends_false : says 13 (5 ∷ 10 ∷ []) ≡ Plain 2 0
  pub ends_list : says 13 (6 ∷ 12 ∷ []) ≡ Plain 0 0
  -- 14, contains
  pub contains_true : says 14 (5 ∷ 12 ∷ []) ≡ Plain 3 0
  pub contains_false : says 14 (5 ∷ 9 ∷ []) ≡ Plain 2 0
  pub contains_map : says 14 (7 ∷ 9 ∷ []) ≡ Plain 0 0
  -- 15, member
  pub member_item : says 15 (1 ∷ 6 ∷ []) ≡ Plain 3 0
  pub member_no_item : says 15 (4 ∷ 6 ∷ []) ≡ Plain 2 0
  pub member_error : says 15 (0 ∷ 6 ∷ []) ≡ Plain 0 0
  pub member_key : says 15 (9 ∷ 7 ∷ []) ≡ Plain 3 0
  pub member_no_key : says 15 (10 ∷ 7 ∷ []) ≡ Plain 2 0
  pub member_int_key : says 15 (4 ∷ 7 ∷ []) ≡ Plain 0 0
  pub member_of_text : says 15 (10 ∷ 5 ∷ []) ≡ Plain 0 0

-- outcomes of the helpers that make texts, lists and maps
pub record BuildingRows : Type 0 where
  -- 11, join
  pub join_texts : says 11 (10 ∷ 9 ∷ []) ≡ Named (text (codes "ak")) 2
  pub join_lists : says 11 (6 ∷ 13 ∷ []) ≡ Named three 3
  pub join_int : says 11 (10 ∷ 4 ∷ []) ≡ Plain 0 0
  pub join_kinds : says 11 (10 ∷ 6 ∷ []) ≡ Plain 0 0
  -- 16, list_new, and 18, map_new
  pub list_new : says 16 [] ≡ Named (list no_items) 0
  pub map_new : says 18 [] ≡ Named (map no_entries) 0
  -- 17, push
  pub push_last : says 17 (13 ∷ 4 ∷ []) ≡ Named (list (item (int (pos 5)) no_items)) 1
  pub push_error : says 17 (6 ∷ 0 ∷ []) ≡ Plain 0 1
  pub push_to_map : says 17 (7 ∷ 4 ∷ []) ≡ Plain 0 1
  pub push_deepest : says 17 (13 ∷ 14 ∷ []) ≡ Named (nested 254) 1
  pub push_too_deep : says 17 (13 ∷ 15 ∷ []) ≡ Refused F8
  -- 19, put
  pub put_first : says 19 (7 ∷ 10 ∷ 4 ∷ [])
      ≡ Named (map (entry (codes "a") (int (pos 5)) (entry (codes "k") (int (pos 9)) (entry (codes "t") (boolean true) no_entries)))) 1
  pub put_twice : says 19 (7 ∷ 9 ∷ 4 ∷ []) ≡ Plain 0 1
  pub put_int_key : says 19 (7 ∷ 4 ∷ 4 ∷ []) ≡ Plain 0 1
  pub put_error : says 19 (7 ∷ 10 ∷ 0 ∷ []) ≡ Plain 0 1
  pub put_in_list : says 19 (6 ∷ 10 ∷ 4 ∷ []) ≡ Plain 0 1
  pub put_too_deep : says 19 (7 ∷ 10 ∷ 15 ∷ []) ≡ Refused F8

-- the charges of calls, and the calls that are stopped
pub record CallRows : Type 0 where
  pub number_zero : says 0 [] ≡ Refused F5
  pub number_24 : says 24 (99 ∷ []) ≡ Refused F5
  pub number_negative : outcome_of (negsuc 0) [] values constants ≡ Refused F5
  -- a reference that is one too large, for each argument
  pub first_reference : says 1 (16 ∷ []) ≡ Refused F6
  pub second_reference : says 9 (4 ∷ 16 ∷ []) ≡ Refused F6
  pub third_reference : says 19 (7 ∷ 10 ∷ 16 ∷ []) ≡ Refused F6
  -- a reference is checked before a range
  pub reference_before_range : says 5 (16 ∷ 0 ∷ 1 ∷ []) ≡ Refused F6
  -- true has its fixed reference; an int is appended
  pub true_is_shared : helper_row (pos 5) (7 ∷ (base + 1) ∷ 1 ∷ []) values constants ≡ Gives 3 values 1
  pub int_is_placed : helper_row (pos 3) (5 ∷ []) values constants ≡ Gives 16 (values ++ value (int (pos 5)) ∷ []) 1
  -- the charge may reach its limit but not exceed it
  pub charge_reached : charged (Gives 7 [] 1) 16777215 ≡ Leaves 7 (record { values = []; charge = 16777216 })
  pub charge_passed : charged (Gives 7 [] 2) 16777215 ≡ Halts F8

-- the cases of each family hold
pub record HelperRowsHold : Type 0 where
  pub conversions : ConversionRows
  pub lookups : LookupRows
  pub comparisons : ComparisonHelperRows
  pub building : BuildingRows
  pub calls : CallRows
