-- Values that a program can have, and calls of helpers, by hand from the table of helpers: ints are signed numbers of 64
-- bits, and nothing in a value has more parts than the charge that was paid for it.
use Rattle.std.specs.Prelude.{◌≡◌, true, false, pos, negsuc, [], ◌∷◌, Some, None, codes}
use Rattle.value_store.specs.Value as kind
use Rattle.value_store.specs.Value.{null, boolean, int, text, list, no_items, item, no_entries, entry, error, value}
use Rattle.helper_table.specs.Building.{is_key}
use Rattle.helper_table.specs.Comparisons.{contains}
use Rattle.helper_table.specs.Outcome.{Plain, Named, Gives, answer_among}
use Rattle.helper_table.specs.Rows.{says}
use Rattle.helper_table.specs.Tables.{IsBounded, IsResultBounded}

-- values that are bounded by a number, and values with one part more
pub record BoundRowsHold : Type 0 where
  pub null_by_none : IsBounded 0 null
  pub truth_by_none : IsBounded 0 (boolean true)
  pub greatest_int : IsBounded 0 (int (pos 9223372036854775807))
  pub past_the_greatest : IsBounded 0 (int (pos 9223372036854775808)) → ⊥
  pub least_int : IsBounded 0 (int (negsuc 9223372036854775807))
  pub past_the_least : IsBounded 0 (int (negsuc 9223372036854775808)) → ⊥
  pub text_by_its_bytes : IsBounded 2 (text (codes "ab"))
  pub text_by_fewer : IsBounded 1 (text (codes "ab")) → ⊥
  pub list_by_its_items : IsBounded 2 (list (item (text (codes "ab")) (item null no_items)))
  pub list_by_fewer : IsBounded 1 (list (item null (item null no_items))) → ⊥
  pub list_with_a_long_first : IsBounded 2 (list (item (text (codes "abc")) (item null no_items))) → ⊥
  pub list_with_a_long_second : IsBounded 2 (list (item null (item (text (codes "abc")) no_items))) → ⊥
  pub map_by_its_entries : IsBounded 2 (kind.map (entry (codes "ab") null (entry (codes "b") (text (codes "ab")) no_entries)))
  pub map_by_fewer : IsBounded 1 (kind.map (entry (codes "a") null (entry (codes "b") null no_entries))) → ⊥
  pub map_with_a_long_key : IsBounded 2 (kind.map (entry (codes "abc") null no_entries)) → ⊥
  pub map_with_a_long_first : IsBounded 2 (kind.map (entry (codes "a") (text (codes "abc")) (entry (codes "b") null no_entries))) → ⊥
  pub map_with_a_long_second : IsBounded 2 (kind.map (entry (codes "a") null (entry (codes "b") (text (codes "abc")) no_entries))) → ⊥
  pub error_by_none : IsResultBounded 0 error
  pub value_by_its_bytes : IsResultBounded 2 (value (text (codes "ab")))
  pub value_by_fewer : IsResultBounded 1 (value (text (codes "ab"))) → ⊥

-- the empty text is in every text, at its end too; a text that is no key is no key of a map; a call costs 1 more than its
-- row adds
pub record CallRowsHold : Type 0 where
  pub key_of_a_map : is_key (Some (entry (codes "a") null no_entries)) (Some (codes "a")) ≡ true
  pub no_text_is_a_key : is_key (Some (entry (codes "a") null no_entries)) None ≡ false
  -- helper 14 on aé and a, in the values of the rows of `helper_table`
  pub contains_at_the_front : says 14 (5 ∷ 10 ∷ []) ≡ Plain 3 0
  pub cost_of_a_word : answer_among [] (Plain 7 1) ≡ Gives 7 [] 2
  pub cost_of_a_value : answer_among [] (Named null 1) ≡ Gives 1 [] 2
  pub nothing_in_nothing : contains [] [] ≡ true
  pub something_in_nothing : contains [] (1 ∷ []) ≡ false
  pub at_the_end : contains (1 ∷ 2 ∷ 3 ∷ []) (2 ∷ 3 ∷ []) ≡ true
  pub in_the_middle : contains (1 ∷ 2 ∷ 3 ∷ []) (2 ∷ []) ≡ true
  pub apart : contains (1 ∷ 2 ∷ 3 ∷ []) (1 ∷ 3 ∷ []) ≡ false
