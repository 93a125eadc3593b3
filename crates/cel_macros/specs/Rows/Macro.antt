-- Macros, worked out by hand.
use Rattle.std.specs.Prelude.{[], ◌∷◌}
use Rattle.cel_reader.specs.Tree.{binary, ternary}
use Rattle.cel_reader.specs.declared.operator.BinaryOperator.TheVariants.{And, Greater, Equal, Add, Divide, Remainder}
use Rattle.value_store.specs.Value.{error}
use Rattle.cel_reader.specs.Written.{num, str, yes, no, name, dot, call, method, list_literal, map_literal}
use Rattle.cel_macros.specs.Written.{is_true, is_false, Means}

-- meanings of macros over lists and maps, in the review of `Written`
pub record MacroRows : Type 0 where
  -- [0,2].exists(x, 4/x == 2)
  pub exists_absorbs : Means
      (method (list_literal ((num 0) ∷ (num 2) ∷ [])) "exists"
      ((name "x") ∷ (binary Equal (binary Divide (num 4) (name "x")) (num 2)) ∷ []))
      is_true
  -- [0,2].exists_one(x, 4/x == 2)
  pub exists_one_absorbs_nothing : Means
      (method (list_literal ((num 0) ∷ (num 2) ∷ [])) "exists_one"
      ((name "x") ∷ (binary Equal (binary Divide (num 4) (name "x")) (num 2)) ∷ []))
      error
  -- [1,2].exists_one(x, x == 2)
  pub exists_one : Means (method (list_literal ((num 1) ∷ (num 2) ∷ [])) "exists_one" ((name "x") ∷ (binary Equal (name "x") (num 2)) ∷ []))
      is_true
  -- [2,2].exists_one(x, x == 2)
  pub exists_one_twice : Means
      (method (list_literal ((num 2) ∷ (num 2) ∷ [])) "exists_one" ((name "x") ∷ (binary Equal (name "x") (num 2)) ∷ [])) is_false
  -- [].all(x, x)
  pub all_of_none : Means (method (list_literal []) "all" ((name "x") ∷ (name "x") ∷ [])) is_true
  -- [].exists(x, x)
  pub exists_of_none : Means (method (list_literal []) "exists" ((name "x") ∷ (name "x") ∷ [])) is_false
  -- {'a':1,'b':2}.all(k, k == 'a' ? 1/0 == 1 : false)
  pub all_with_error_and_false : Means
      (method (map_literal (((str "a"), (num 1)) ∷ ((str "b"), (num 2)) ∷ [])) "all"
      ((name "k") ∷ (ternary (binary Equal (name "k") (str "a")) (binary Equal (binary Divide (num 1) (num 0)) (num 1)) no) ∷ []))
      is_false
  -- [0,1].all(x, 1/x == 1)
  pub all_with_error : Means
      (method (list_literal ((num 0) ∷ (num 1) ∷ [])) "all" ((name "x") ∷ (binary Equal (binary Divide (num 1) (name "x")) (num 1)) ∷ []))
      error
  -- [1].exists(x, x)
  pub exists_with_no_truth : Means (method (list_literal ((num 1) ∷ [])) "exists" ((name "x") ∷ (name "x") ∷ [])) error
  -- [1].map(x, x > 0, x + 1) == [2]
  pub map_where : Means
      (binary Equal
      (method (list_literal ((num 1) ∷ [])) "map"
      ((name "x") ∷ (binary Greater (name "x") (num 0)) ∷ (binary Add (name "x") (num 1)) ∷ []))
      (list_literal ((num 2) ∷ [])))
      is_true
  -- [0,1].map(x, x > 0, 1/x) == [1]
  pub transform_not_visited : Means
      (binary Equal
      (method (list_literal ((num 0) ∷ (num 1) ∷ [])) "map"
      ((name "x") ∷ (binary Greater (name "x") (num 0)) ∷ (binary Divide (num 1) (name "x")) ∷ []))
      (list_literal ((num 1) ∷ [])))
      is_true
  -- [0,1].map(x, 1/x)
  pub map_with_error : Means (method (list_literal ((num 0) ∷ (num 1) ∷ [])) "map" ((name "x") ∷ (binary Divide (num 1) (name "x")) ∷ []))
      error
  -- {'b':1,'a':2}.map(k, k) == ['a','b']
  pub map_over_keys : Means
      (binary Equal (method (map_literal (((str "b"), (num 1)) ∷ ((str "a"), (num 2)) ∷ [])) "map" ((name "k") ∷ (name "k") ∷ []))
      (list_literal ((str "a") ∷ (str "b") ∷ [])))
      is_true
  -- [1,2,3].filter(x, x % 2 == 1) == [1,3]
  pub filter : Means
      (binary Equal
      (method (list_literal ((num 1) ∷ (num 2) ∷ (num 3) ∷ [])) "filter"
      ((name "x") ∷ (binary Equal (binary Remainder (name "x") (num 2)) (num 1)) ∷ []))
      (list_literal ((num 1) ∷ (num 3) ∷ [])))
      is_true
  -- [1].filter(x, x)
  pub filter_with_no_truth : Means (method (list_literal ((num 1) ∷ [])) "filter" ((name "x") ∷ (name "x") ∷ [])) error
  -- [1].all(x, [2].all(x, x == 2))
  pub inner_name_hides : Means
      (method (list_literal ((num 1) ∷ [])) "all"
      ((name "x") ∷ (method (list_literal ((num 2) ∷ [])) "all" ((name "x") ∷ (binary Equal (name "x") (num 2)) ∷ [])) ∷ []))
      is_true
  -- [1].all(x, [2].all(y, y == 2) && x == 1)
  pub outer_name_again : Means
      (method (list_literal ((num 1) ∷ [])) "all"
      ((name "x")
      ∷ (binary And (method (list_literal ((num 2) ∷ [])) "all" ((name "y") ∷ (binary Equal (name "y") (num 2)) ∷ []))
      (binary Equal (name "x") (num 1)))
      ∷ []))
      is_true
  -- [1].map(i, object.spec.on) == [true]
  pub roots_inside_macro : Means
      (binary Equal (method (list_literal ((num 1) ∷ [])) "map" ((name "i") ∷ (dot (dot (name "object") "spec") "on") ∷ []))
      (list_literal (yes ∷ [])))
      is_true
  -- dyn(1).all(x, true)
  pub range_of_int : Means (method (call "dyn" ((num 1) ∷ [])) "all" ((name "x") ∷ yes ∷ [])) error
  -- [1/0].all(x, true)
  pub range_with_error : Means (method (list_literal ((binary Divide (num 1) (num 0)) ∷ [])) "all" ((name "x") ∷ yes ∷ [])) error
  -- [].exists_one(x, x)
  pub exists_one_of_none : Means (method (list_literal []) "exists_one" ((name "x") ∷ (name "x") ∷ [])) is_false
  -- [1].exists_one(x, x)
  pub exists_one_with_no_truth : Means (method (list_literal ((num 1) ∷ [])) "exists_one" ((name "x") ∷ (name "x") ∷ [])) error
  -- [1, 2].exists(x, x == 3)
  pub exists_not : Means (method (list_literal ((num 1) ∷ (num 2) ∷ [])) "exists" ((name "x") ∷ (binary Equal (name "x") (num 3)) ∷ []))
      is_false
  -- {'a':1}.exists(k, k == 'a')
  pub exists_over_keys : Means
      (method (map_literal (((str "a"), (num 1)) ∷ [])) "exists" ((name "k") ∷ (binary Equal (name "k") (str "a")) ∷ [])) is_true
  -- {'a':1}.filter(k, true) == ['a']
  pub filter_over_keys : Means
      (binary Equal (method (map_literal (((str "a"), (num 1)) ∷ [])) "filter" ((name "k") ∷ yes ∷ [])) (list_literal ((str "a") ∷ [])))
      is_true
  -- [0].filter(x, 1/x == 1)
  pub filter_with_error : Means
      (method (list_literal ((num 0) ∷ [])) "filter" ((name "x") ∷ (binary Equal (binary Divide (num 1) (name "x")) (num 1)) ∷ [])) error
  -- [1].map(x, x, x)
  pub map_where_no_truth : Means (method (list_literal ((num 1) ∷ [])) "map" ((name "x") ∷ (name "x") ∷ (name "x") ∷ [])) error
  -- [1].all(x, true) && x == 1
  pub name_ends_with_macro : Means
      (binary And (method (list_literal ((num 1) ∷ [])) "all" ((name "x") ∷ yes ∷ [])) (binary Equal (name "x") (num 1))) error
  -- [1].all(x, [2].all(x, x == 2) && x == 1)
  pub hidden_name_again : Means
      (method (list_literal ((num 1) ∷ [])) "all"
      ((name "x")
      ∷ (binary And (method (list_literal ((num 2) ∷ [])) "all" ((name "x") ∷ (binary Equal (name "x") (num 2)) ∷ []))
      (binary Equal (name "x") (num 1)))
      ∷ []))
      is_true
  -- object.spec.all(k, has(object.spec.on)), where the range is a map of two keys
  pub all_over_root : Means
      (method (dot (name "object") "spec") "all" ((name "k") ∷ (call "has" ((dot (dot (name "object") "spec") "on") ∷ [])) ∷ [])) is_true
  -- 'ab'.all(x, true)
  pub range_of_text : Means (method (str "ab") "all" ((name "x") ∷ yes ∷ [])) error
  -- [1,2,3].exists_one(x, x == 1)
  pub exists_one_of_three : Means
      (method (list_literal ((num 1) ∷ (num 2) ∷ (num 3) ∷ [])) "exists_one" ((name "x") ∷ (binary Equal (name "x") (num 1)) ∷ [])) is_true
  -- [true, 1].filter(x, x)
  pub filter_with_one_no_truth : Means (method (list_literal (yes ∷ (num 1) ∷ [])) "filter" ((name "x") ∷ (name "x") ∷ [])) error
