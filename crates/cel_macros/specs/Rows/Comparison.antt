-- Equality, order and membership, worked out by hand.
use Rattle.std.specs.Prelude.{[], ◌∷◌}
use Rattle.cel_reader.specs.Tree.{binary}
use Rattle.cel_reader.specs.declared.operator.BinaryOperator.TheVariants.{Less, LessEqual, GreaterEqual, Greater, Equal, NotEqual, In}
use Rattle.cel_reader.specs.declared.operator.BinaryOperator.TheVariants.{Divide}
use Rattle.value_store.specs.Value.{error}
use Rattle.cel_reader.specs.Written.{num, neg, str, bytes, yes, no, nothing, list_literal, map_literal}
use Rattle.cel_macros.specs.Written.{is_true, is_false, Means}

-- meanings of comparisons and membership tests, in the review of `Written`
pub record ComparisonRows : Type 0 where
  -- 1 == 'a'
  pub kinds_unequal : Means (binary Equal (num 1) (str "a")) is_false
  -- true == 1
  pub truth_is_no_int : Means (binary Equal yes (num 1)) is_false
  -- null == null
  pub nulls_equal : Means (binary Equal nothing nothing) is_true
  -- {'a':[1]} == {'a':[1]}
  pub deep_equality : Means
      (binary Equal (map_literal (((str "a"), (list_literal ((num 1) ∷ []))) ∷ []))
      (map_literal (((str "a"), (list_literal ((num 1) ∷ []))) ∷ [])))
      is_true
  -- 1/0 == 1
  pub equal_to_error : Means (binary Equal (binary Divide (num 1) (num 0)) (num 1)) error
  -- 1 != 2
  pub unequal : Means (binary NotEqual (num 1) (num 2)) is_true
  -- -1 < 0
  pub ints_ordered : Means (binary Less (neg 1) (num 0)) is_true
  -- 2 <= 2
  pub less_or_equal : Means (binary LessEqual (num 2) (num 2)) is_true
  -- 2 > 2
  pub greater : Means (binary Greater (num 2) (num 2)) is_false
  -- 3 >= 2
  pub greater_or_equal : Means (binary GreaterEqual (num 3) (num 2)) is_true
  -- '\uffff' < '\U00010000'
  pub texts_by_code_points : Means (binary Less (bytes (239 ∷ 191 ∷ 191 ∷ [])) (bytes (240 ∷ 144 ∷ 128 ∷ 128 ∷ []))) is_true
  -- false < true
  pub truths_ordered : Means (binary Less no yes) is_true
  -- null < null
  pub nulls_not_ordered : Means (binary Less nothing nothing) error
  -- 1 < 'a'
  pub kinds_not_ordered : Means (binary Less (num 1) (str "a")) error
  -- 2 in [1, 2]
  pub item_of_list : Means (binary In (num 2) (list_literal ((num 1) ∷ (num 2) ∷ []))) is_true
  -- 'a' in [1, 2]
  pub no_item_of_list : Means (binary In (str "a") (list_literal ((num 1) ∷ (num 2) ∷ []))) is_false
  -- 'a' in {'a':null}
  pub key_of_map : Means (binary In (str "a") (map_literal (((str "a"), nothing) ∷ []))) is_true
  -- null in {'a':1}
  pub null_is_no_key : Means (binary In nothing (map_literal (((str "a"), (num 1)) ∷ []))) error
  -- 1 in 1
  pub no_container : Means (binary In (num 1) (num 1)) error
  -- 1 != 'a'
  pub kinds_differ : Means (binary NotEqual (num 1) (str "a")) is_true
  -- 1/0 != 1
  pub unequal_to_error : Means (binary NotEqual (binary Divide (num 1) (num 0)) (num 1)) error
  -- [1, 2] == [2, 1]
  pub lists_in_order : Means (binary Equal (list_literal ((num 1) ∷ (num 2) ∷ [])) (list_literal ((num 2) ∷ (num 1) ∷ []))) is_false
  -- 'a' < 'ab'
  pub beginning_below : Means (binary Less (str "a") (str "ab")) is_true
  -- true <= true
  pub truth_not_below_itself : Means (binary LessEqual yes yes) is_true
  -- [1] < [2]
  pub lists_not_ordered : Means (binary Less (list_literal ((num 1) ∷ [])) (list_literal ((num 2) ∷ []))) error
  -- null >= 1
  pub null_not_ordered : Means (binary GreaterEqual nothing (num 1)) error
  -- 'b' in {'a':1}
  pub no_key_of_map : Means (binary In (str "b") (map_literal (((str "a"), (num 1)) ∷ []))) is_false
  -- 1/0 in [1]
  pub error_in_list : Means (binary In (binary Divide (num 1) (num 0)) (list_literal ((num 1) ∷ []))) error
  -- 'a' in 'abc'
  pub text_is_no_container : Means (binary In (str "a") (str "abc")) error
  -- 2 >= 2
  pub greater_or_equal_to_itself : Means (binary GreaterEqual (num 2) (num 2)) is_true
  -- 2 >= 3
  pub not_greater_or_equal : Means (binary GreaterEqual (num 2) (num 3)) is_false
  -- 2 < 2
  pub not_less_than_itself : Means (binary Less (num 2) (num 2)) is_false
  -- 3 > 2
  pub greater_than_less : Means (binary Greater (num 3) (num 2)) is_true
  -- 2 <= 1
  pub not_less_or_equal : Means (binary LessEqual (num 2) (num 1)) is_false
  -- 1 != 1
  pub not_unequal_to_itself : Means (binary NotEqual (num 1) (num 1)) is_false
  -- 2 > 3
  pub not_greater_than_more : Means (binary Greater (num 2) (num 3)) is_false
  -- 3 < 2
  pub not_less_than_less : Means (binary Less (num 3) (num 2)) is_false
  -- 'b' < 'a'
  pub text_not_below_smaller : Means (binary Less (str "b") (str "a")) is_false
  -- true < false
  pub truth_not_below_smaller : Means (binary Less yes no) is_false
