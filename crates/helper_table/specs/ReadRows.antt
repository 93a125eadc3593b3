-- What calls read, worked out by hand, on the values and constants of `Rows` and one value more.
use Rattle.std.specs.Prelude.{◌≡◌, ℕ, ◌+◌, pos, negsuc, List, [], ◌∷◌, ◌++◌}
use Rattle.value_store.specs.Value.{list, no_items, item, ValueOrError, value}
use Rattle.helper_table.specs.Reads.{reads_of}
use Rattle.helper_table.specs.Rows.{base, constants, three, values}

-- at 16 follows [[7,true,null]], whose JSON text has 15 bytes
abbrev pub more_values : List ValueOrError
more_values = values ++ value (list (item three no_items)) ∷ []

-- what the helper with this number reads for these arguments
abbrev pub reads : ℕ → List ℕ → ℕ
reads number args = reads_of (pos number) args more_values constants

-- calls that read nothing, with any operands
pub record FreeRows : Type 0 where
  pub kind : reads 1 (5 ∷ []) ≡ 0
  pub int_of : reads 2 (4 ∷ []) ≡ 0
  pub int_new : reads 3 (5 ∷ []) ≡ 0
  pub list_new : reads 16 [] ≡ 0
  pub push : reads 17 (6 ∷ 5 ∷ []) ≡ 0
  pub map_new : reads 18 [] ≡ 0
  pub item_key : reads 20 (7 ∷ 1 ∷ []) ≡ 0
  pub count : reads 21 (6 ∷ []) ≡ 0
  pub text_of_int : reads 22 (8 ∷ []) ≡ 0
  pub negation : reads 23 (2 ∷ []) ≡ 0

-- constants and searches for keys; a number of two entries has two binary digits
pub record SearchRows : Type 0 where
  -- 4, text_const: é, then one byte that is no text
  pub text_const : reads 4 ((base + 2) ∷ 2 ∷ []) ≡ 2
  pub text_const_other : reads 4 ((base + 4) ∷ 1 ∷ []) ≡ 1
  pub text_const_outside : reads 4 ((base + 4) ∷ 2 ∷ []) ≡ 0
  -- 5, field
  pub field_there : reads 5 (7 ∷ base ∷ 1 ∷ []) ≡ 2
  pub field_missing : reads 5 (7 ∷ (base + 2) ∷ 2 ∷ []) ≡ 4
  pub field_of_list : reads 5 (6 ∷ base ∷ 1 ∷ []) ≡ 0
  pub field_outside : reads 5 (7 ∷ 0 ∷ 1 ∷ []) ≡ 0
  -- 6, has
  pub has_missing : reads 6 (7 ∷ (base + 2) ∷ 2 ∷ []) ≡ 4
  pub has_of_text : reads 6 (5 ∷ base ∷ 1 ∷ []) ≡ 0
  -- 7, index
  pub index_map : reads 7 (7 ∷ 9 ∷ []) ≡ 2
  pub index_missing : reads 7 (7 ∷ 5 ∷ []) ≡ 6
  pub index_list : reads 7 (6 ∷ 11 ∷ []) ≡ 0
  pub index_map_by_int : reads 7 (7 ∷ 11 ∷ []) ≡ 0
  -- 19, put
  pub put_first : reads 19 (7 ∷ 10 ∷ 4 ∷ []) ≡ 4
  pub put_in_list : reads 19 (6 ∷ 10 ∷ 4 ∷ []) ≡ 0
  pub put_int_key : reads 19 (7 ∷ 4 ∷ 4 ∷ []) ≡ 0

-- comparisons
pub record ReadingRows : Type 0 where
  -- 8, size: two code points in three bytes
  pub size_text : reads 8 (5 ∷ []) ≡ 3
  pub size_list : reads 8 (6 ∷ []) ≡ 0
  -- 9, equal: [7,true,null] has 13 bytes; -1 is longer than 5; null is as long as true, and of another kind
  pub equal_lists : reads 9 (6 ∷ 6 ∷ []) ≡ 13
  pub equal_texts : reads 9 (9 ∷ 10 ∷ []) ≡ 3
  pub equal_ints : reads 9 (4 ∷ 11 ∷ []) ≡ 1
  pub equal_nulls : reads 9 (1 ∷ 1 ∷ []) ≡ 4
  pub equal_other_length : reads 9 (4 ∷ 8 ∷ []) ≡ 0
  pub equal_other_kind : reads 9 (1 ∷ 3 ∷ []) ≡ 0
  pub equal_errors : reads 9 (0 ∷ 0 ∷ []) ≡ 0
  -- 10, less
  pub less_texts : reads 10 (5 ∷ 12 ∷ []) ≡ 2
  pub less_ints : reads 10 (8 ∷ 4 ∷ []) ≡ 0
  -- 11, join
  pub join_texts : reads 11 (5 ∷ 9 ∷ []) ≡ 4
  pub join_lists : reads 11 (6 ∷ 6 ∷ []) ≡ 6
  pub join_kinds : reads 11 (10 ∷ 6 ∷ []) ≡ 0
  -- 12, starts, and 13, ends
  pub starts_text : reads 12 (5 ∷ 12 ∷ []) ≡ 2
  pub starts_longer : reads 12 (10 ∷ 5 ∷ []) ≡ 0
  pub ends_text : reads 13 (5 ∷ 12 ∷ []) ≡ 2
  pub ends_longer : reads 13 (10 ∷ 5 ∷ []) ≡ 0
  pub ends_list : reads 13 (6 ∷ 12 ∷ []) ≡ 0
  -- 14, contains
  pub contains_text : reads 14 (5 ∷ 12 ∷ []) ≡ 5
  pub contains_same_length : reads 14 (9 ∷ 10 ∷ []) ≡ 2
  pub contains_longer : reads 14 (10 ∷ 5 ∷ []) ≡ 0
  -- 15, member: 13 + 1 bytes, not 3 * (8 + 1); 1 * (8 + 1), not 15 + 1; an empty list has no items
  pub member_text : reads 15 (4 ∷ 6 ∷ []) ≡ 14
  pub member_items : reads 15 (4 ∷ 16 ∷ []) ≡ 9
  pub member_none : reads 15 (4 ∷ 13 ∷ []) ≡ 0
  pub member_key : reads 15 (9 ∷ 7 ∷ []) ≡ 2
  pub member_int_key : reads 15 (4 ∷ 7 ∷ []) ≡ 0
  pub member_error : reads 15 (0 ∷ 6 ∷ []) ≡ 0

-- calls that are stopped read nothing
pub record StoppedRows : Type 0 where
  pub number_24 : reads 24 (5 ∷ []) ≡ 0
  pub number_negative : reads_of (negsuc 0) (5 ∷ []) more_values constants ≡ 0
  pub first_reference : reads 8 (17 ∷ []) ≡ 0
  pub second_reference : reads 14 (5 ∷ 17 ∷ []) ≡ 0
  pub third_reference : reads 19 (7 ∷ 10 ∷ 17 ∷ []) ≡ 0

-- the cases of each family hold
pub record ReadRowsHold : Type 0 where
  pub free : FreeRows
  pub searches : SearchRows
  pub comparisons : ReadingRows
  pub stopped : StoppedRows
