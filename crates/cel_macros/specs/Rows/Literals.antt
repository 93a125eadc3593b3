-- Literals, functions and methods, worked out by hand.
use Rattle.std.specs.Prelude.{pos, [], ◌∷◌}
use Rattle.cel_reader.specs.Tree.{binary}
use Rattle.cel_reader.specs.declared.operator.BinaryOperator.TheVariants.{And, Equal, Divide}
use Rattle.value_store.specs.Value.{int, list, no_items, item, error}
use Rattle.cel_reader.specs.Written.{num, neg, str, bytes, yes, nothing, dot, call, method, list_literal, map_literal}
use Rattle.cel_macros.specs.Written.{is_true, is_false, number, word, list_value, Means}

-- meanings of literals, functions and methods, in the review of `Written`
pub record LiteralsRows : Type 0 where
  -- [1, 1/0]
  pub list_with_error : Means (list_literal ((num 1) ∷ (binary Divide (num 1) (num 0)) ∷ [])) error
  -- {'a':1,'a':2} == {}
  pub map_with_doubled_key : Means (binary Equal (map_literal (((str "a"), (num 1)) ∷ ((str "a"), (num 2)) ∷ [])) (map_literal [])) error
  -- {1:2} == {}
  pub map_with_int_key : Means (binary Equal (map_literal (((num 1), (num 2)) ∷ [])) (map_literal [])) error
  -- {'a':1/0}
  pub map_with_error : Means (map_literal (((str "a"), (binary Divide (num 1) (num 0))) ∷ [])) error
  -- {'b':true}.b && true
  pub map_entry : Means (binary And (dot (map_literal (((str "b"), yes) ∷ [])) "b") yes) is_true
  -- {'b':1,'a':2} == {'a':2,'b':1}
  pub map_in_any_order : Means
      (binary Equal (map_literal (((str "b"), (num 1)) ∷ ((str "a"), (num 2)) ∷ []))
      (map_literal (((str "a"), (num 2)) ∷ ((str "b"), (num 1)) ∷ [])))
      is_true
  -- size('é') == 1
  pub size_in_code_points : Means (binary Equal (call "size" ((bytes (195 ∷ 169 ∷ [])) ∷ [])) (num 1)) is_true
  -- [1, 2].size()
  pub size_of_list : Means (method (list_literal ((num 1) ∷ (num 2) ∷ [])) "size" []) (number (pos 2))
  -- size({'a':1})
  pub size_of_map : Means (call "size" ((map_literal (((str "a"), (num 1)) ∷ [])) ∷ [])) (number (pos 1))
  -- size(1)
  pub size_of_int : Means (call "size" ((num 1) ∷ [])) error
  -- 'abc'.startsWith('ab')
  pub starts_with : Means (method (str "abc") "startsWith" ((str "ab") ∷ [])) is_true
  -- 'a'.startsWith('ab')
  pub starts_with_longer : Means (method (str "a") "startsWith" ((str "ab") ∷ [])) is_false
  -- 'abc'.endsWith('bc')
  pub ends_with : Means (method (str "abc") "endsWith" ((str "bc") ∷ [])) is_true
  -- 'abc'.contains('b')
  pub contains : Means (method (str "abc") "contains" ((str "b") ∷ [])) is_true
  -- ''.contains('')
  pub contains_empty : Means (method (str "") "contains" ((str "") ∷ [])) is_true
  -- 'abc'.contains('ac')
  pub contains_not : Means (method (str "abc") "contains" ((str "ac") ∷ [])) is_false
  -- (1).startsWith('a')
  pub method_of_int : Means (method (num 1) "startsWith" ((str "a") ∷ [])) error
  -- string(-12)
  pub string_of_int : Means (call "string" ((neg 12) ∷ [])) (word "-12")
  -- string('a')
  pub string_of_text : Means (call "string" ((str "a") ∷ [])) (word "a")
  -- string(true)
  pub string_of_truth : Means (call "string" (yes ∷ [])) error
  -- dyn(1) == 'a'
  pub dyn : Means (binary Equal (call "dyn" ((num 1) ∷ [])) (str "a")) is_false
  -- f(1)
  pub function_unknown : Means (call "f" ((num 1) ∷ [])) error
  -- [1, [2]]
  pub list_of_values : Means (list_literal ((num 1) ∷ (list_literal ((num 2) ∷ [])) ∷ []))
      (list_value (int (pos 1) ∷ list (item (int (pos 2)) no_items) ∷ []))
  -- {1/0: 1}
  pub map_with_error_key : Means (map_literal (((binary Divide (num 1) (num 0)), (num 1)) ∷ [])) error
  -- size(null)
  pub size_of_null : Means (call "size" (nothing ∷ [])) error
  -- size([1/0])
  pub size_of_error : Means (call "size" ((list_literal ((binary Divide (num 1) (num 0)) ∷ [])) ∷ [])) error
  -- 'abc'.endsWith('ab')
  pub ends_with_not : Means (method (str "abc") "endsWith" ((str "ab") ∷ [])) is_false
  -- 'a'.contains(1)
  pub contains_int : Means (method (str "a") "contains" ((num 1) ∷ [])) error
  -- string(-9223372036854775808)
  pub string_of_least : Means (call "string" ((neg 9223372036854775808) ∷ [])) (word "-9223372036854775808")
  -- dyn(1/0)
  pub dyn_of_error : Means (call "dyn" ((binary Divide (num 1) (num 0)) ∷ [])) error
  -- size(1, 2)
  pub size_of_two : Means (call "size" ((num 1) ∷ (num 2) ∷ [])) error
  -- 'a'.string()
  pub string_is_no_method : Means (method (str "a") "string" []) error
  -- 'abc'.startsWith('bc')
  pub starts_with_its_end : Means (method (str "abc") "startsWith" ((str "bc") ∷ [])) is_false
  -- 'a'.dyn()
  pub dyn_is_no_method : Means (method (str "a") "dyn" []) error
  -- 'a'.f()
  pub method_unknown : Means (method (str "a") "f" []) error
  -- object()
  pub root_is_no_function : Means (call "object" []) error
  -- 'a'.object(1, 2, 3, 4)
  pub root_is_no_method : Means (method (str "a") "object" ((num 1) ∷ (num 2) ∷ (num 3) ∷ (num 4) ∷ [])) error
