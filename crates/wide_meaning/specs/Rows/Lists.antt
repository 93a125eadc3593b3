-- Methods of lists that look at each item, worked out by hand.
use Rattle.std.specs.Prelude.{pos, negsuc, [], ◌∷◌}
use Rattle.cel_reader.specs.declared.operator.BinaryOperator.TheVariants.{Equal}
use Rattle.value_store.specs.Value.{int, text, list, items_of}
use Rattle.wide_reader.specs.Tree.{binary}
use Rattle.wide_meaning.specs.Outcome.{failed, plain}
use Rattle.wide_meaning.specs.Written.{num, neg, str, nothing, wrong, dot, method, list_literal, map_literal, WideGives, is_true, is_false, number, object_spec, missing}

-- meanings in the environment of `Written`
pub record ListRows : Type 0 where
  -- object.spec.args.isSorted(), [1, 2, 3].isSorted(), ['a', 'b', 'b', 'c'].isSorted(), [1].isSorted() and [].isSorted()
  pub arguments_sorted : WideGives (method (dot object_spec "args") "isSorted" []) is_false
  pub ints_sorted : WideGives (method (list_literal (num 1 ∷ num 2 ∷ num 3 ∷ [])) "isSorted" []) is_true
  pub texts_sorted : WideGives (method (list_literal (str "a" ∷ str "b" ∷ str "b" ∷ str "c" ∷ [])) "isSorted" []) is_true
  pub one_sorted : WideGives (method (list_literal (num 1 ∷ [])) "isSorted" []) is_true
  pub none_sorted : WideGives (method (list_literal []) "isSorted" []) is_true
  -- [2, 1].isSorted(), [1, 'a'].isSorted(), [2, 1, 'a'].isSorted(), [null].isSorted() and 'ab'.isSorted()
  pub not_sorted : WideGives (method (list_literal (num 2 ∷ num 1 ∷ [])) "isSorted" []) is_false
  pub no_order : WideGives (method (list_literal (num 1 ∷ str "a" ∷ [])) "isSorted" []) failed
  pub false_first : WideGives (method (list_literal (num 2 ∷ num 1 ∷ str "a" ∷ [])) "isSorted" []) is_false
  pub null_sorted : WideGives (method (list_literal (nothing ∷ [])) "isSorted" []) is_true
  pub text_sorted : WideGives (method (str "ab") "isSorted" []) failed
  -- [2, 1, 2].distinct() == [2, 1], ['b', 'b', 'c', 'a', 'c'].distinct() == ['b', 'c', 'a'] and [[1], 1, [1]].distinct()
  pub distinct_ints : WideGives (binary Equal (method (list_literal (num 2 ∷ num 1 ∷ num 2 ∷ [])) "distinct" []) (list_literal (num 2 ∷ num 1 ∷ []))) is_true
  pub distinct_texts : WideGives (binary Equal (method (list_literal (str "b" ∷ str "b" ∷ str "c" ∷ str "a" ∷ str "c" ∷ [])) "distinct" []) (list_literal (str "b" ∷ str "c" ∷ str "a" ∷ []))) is_true
  pub distinct_lists : WideGives (method (list_literal (list_literal (num 1 ∷ []) ∷ num 1 ∷ list_literal (num 1 ∷ []) ∷ [])) "distinct" []) (plain (list (items_of (list (items_of (int (pos 1) ∷ [])) ∷ int (pos 1) ∷ []))))
  -- [5, 3, 1, 2].reverse(), [].reverse(), 'abc'.reverse(), {'a': 1}.reverse() and object.spec.?missing.reverse()
  pub reversed_ints : WideGives (method (list_literal (num 5 ∷ num 3 ∷ num 1 ∷ num 2 ∷ [])) "reverse" []) (plain (list (items_of (int (pos 2) ∷ int (pos 1) ∷ int (pos 3) ∷ int (pos 5) ∷ []))))
  pub reversed_nothing : WideGives (method (list_literal []) "reverse" []) (plain (list (items_of [])))
  pub reversed_text : WideGives (method (str "abc") "reverse" []) failed
  pub reversed_map : WideGives (method (map_literal ((str "a", num 1) ∷ [])) "reverse" []) failed
  pub reversed_optional : WideGives (method missing "reverse" []) failed
  -- [1, 2, 3, 4].slice(1, 3), slice(2, 4) and slice(4, 4)
  pub middle : WideGives (method (list_literal (num 1 ∷ num 2 ∷ num 3 ∷ num 4 ∷ [])) "slice" (num 1 ∷ num 3 ∷ [])) (plain (list (items_of (int (pos 2) ∷ int (pos 3) ∷ []))))
  pub rest : WideGives (method (list_literal (num 1 ∷ num 2 ∷ num 3 ∷ num 4 ∷ [])) "slice" (num 2 ∷ num 4 ∷ [])) (plain (list (items_of (int (pos 3) ∷ int (pos 4) ∷ []))))
  pub no_part : WideGives (method (list_literal (num 1 ∷ num 2 ∷ num 3 ∷ num 4 ∷ [])) "slice" (num 4 ∷ num 4 ∷ [])) (plain (list (items_of [])))
  -- [1, 2, 3, 4].slice(0, 10), slice(-5, 3), slice(3, 2), slice('0', 2) and slice(0, 1 / 0)
  pub beyond : WideGives (method (list_literal (num 1 ∷ num 2 ∷ num 3 ∷ num 4 ∷ [])) "slice" (num 0 ∷ num 10 ∷ [])) failed
  pub before : WideGives (method (list_literal (num 1 ∷ num 2 ∷ num 3 ∷ num 4 ∷ [])) "slice" (neg 5 ∷ num 3 ∷ [])) failed
  pub backwards : WideGives (method (list_literal (num 1 ∷ num 2 ∷ num 3 ∷ num 4 ∷ [])) "slice" (num 3 ∷ num 2 ∷ [])) failed
  pub from_text : WideGives (method (list_literal (num 1 ∷ num 2 ∷ num 3 ∷ num 4 ∷ [])) "slice" (str "0" ∷ num 2 ∷ [])) failed
  pub to_error : WideGives (method (list_literal (num 1 ∷ num 2 ∷ num 3 ∷ num 4 ∷ [])) "slice" (num 0 ∷ wrong ∷ [])) failed
  -- ['a', 'b', 'b', 'c'].indexOf('b'), lastIndexOf('b') and indexOf('d'), [].lastIndexOf('a'), [1].indexOf(1 / 0) and 1.indexOf(1)
  pub first_place : WideGives (method (list_literal (str "a" ∷ str "b" ∷ str "b" ∷ str "c" ∷ [])) "indexOf" (str "b" ∷ [])) (number (pos 1))
  pub last_place : WideGives (method (list_literal (str "a" ∷ str "b" ∷ str "b" ∷ str "c" ∷ [])) "lastIndexOf" (str "b" ∷ [])) (number (pos 2))
  pub no_place : WideGives (method (list_literal (str "a" ∷ str "b" ∷ str "b" ∷ str "c" ∷ [])) "indexOf" (str "d" ∷ [])) (number (negsuc 0))
  pub place_in_nothing : WideGives (method (list_literal []) "lastIndexOf" (str "a" ∷ [])) (number (negsuc 0))
  pub place_of_error : WideGives (method (list_literal (num 1 ∷ [])) "indexOf" (wrong ∷ [])) failed
  pub place_in_int : WideGives (method (num 1) "indexOf" (num 1 ∷ [])) failed
