-- Invalid macros, worked out by hand.
use Rattle.std.specs.Prelude.{◌≡◌, [], ◌∷◌, Some, None}
use Rattle.cel_reader.specs.Tree.{Tree, index, unary, binary, ternary}
use Rattle.cel_reader.specs.declared.operator.BinaryOperator.TheVariants.{Add}
use Rattle.cel_reader.specs.declared.operator.UnaryOperator.TheVariants.{Not}
use Rattle.cel_macros.specs.MacroFault.{ArgumentCount, IterationName, NoSelection, macro_fault}
use Rattle.cel_reader.specs.Written.{num, str, yes, name, dot, call, method, list_literal, map_literal}

-- [1]
abbrev pub one : Tree
one = list_literal (num 1 ∷ [])

-- has()
abbrev pub of_none : Tree
of_none = call "has" []

-- has(object)
abbrev pub of_root : Tree
of_root = call "has" (name "object" ∷ [])

-- what is wrong with each of these macros, or that nothing is
pub record MacroFaultRows : Type 0 where
  -- [1].all(x)
  pub one_argument : macro_fault (method one "all" (name "x" ∷ [])) ≡ Some ArgumentCount
  -- has()
  pub no_argument : macro_fault (call "has" []) ≡ Some ArgumentCount
  -- [1].all(x, true, true)
  pub three_arguments : macro_fault (method one "all" (name "x" ∷ yes ∷ yes ∷ [])) ≡ Some ArgumentCount
  -- [1].map(x, true, 1)
  pub three_of_map : macro_fault (method one "map" (name "x" ∷ yes ∷ num 1 ∷ [])) ≡ None
  -- [1].all(1, true)
  pub no_name : macro_fault (method one "all" (num 1 ∷ yes ∷ [])) ≡ Some IterationName
  -- [1].all(object, true)
  pub name_of_root : macro_fault (method one "all" (name "object" ∷ yes ∷ [])) ≡ Some IterationName
  -- [1].all(variables, true)
  pub name_variables : macro_fault (method one "all" (name "variables" ∷ yes ∷ [])) ≡ Some IterationName
  -- has(object)
  pub no_field : macro_fault (call "has" (name "object" ∷ [])) ≡ Some NoSelection
  -- has(has())
  pub node_before_part : macro_fault (call "has" (call "has" [] ∷ [])) ≡ Some NoSelection
  -- [1].all(1, has())
  pub node_before_argument : macro_fault (method one "all" (num 1 ∷ call "has" [] ∷ [])) ≡ Some IterationName
  -- has() + has(object)
  pub left_before_right : macro_fault (binary Add (call "has" []) (call "has" (name "object" ∷ []))) ≡ Some ArgumentCount
  -- has(object.x)
  pub has_field : macro_fault (call "has" (dot (name "object") "x" ∷ [])) ≡ None
  -- [1].filter(params, true)
  pub name_of_params : macro_fault (method one "filter" (name "params" ∷ yes ∷ [])) ≡ Some IterationName
  -- [1].exists_one(x.y, true)
  pub selection_is_no_name : macro_fault (method one "exists_one" (dot (name "x") "y" ∷ yes ∷ [])) ≡ Some IterationName
  -- [1].map(x, true, 1, 2)
  pub four_arguments : macro_fault (method one "map" (name "x" ∷ yes ∷ num 1 ∷ num 2 ∷ [])) ≡ Some ArgumentCount
  -- has(object.x, 1)
  pub has_of_two : macro_fault (call "has" (dot (name "object") "x" ∷ num 1 ∷ [])) ≡ Some ArgumentCount
  -- all(1)
  pub all_is_no_function : macro_fault (call "all" (num 1 ∷ [])) ≡ None
  -- object.has(1)
  pub has_is_no_method : macro_fault (method (name "object") "has" (num 1 ∷ [])) ≡ None
  -- [1].exists(x, true, true)
  pub three_of_exists : macro_fault (method one "exists" (name "x" ∷ yes ∷ yes ∷ [])) ≡ Some ArgumentCount
  -- [1].exists_one(x, true, true)
  pub three_of_exists_one : macro_fault (method one "exists_one" (name "x" ∷ yes ∷ yes ∷ [])) ≡ Some ArgumentCount
  -- [1].filter(x, true, true)
  pub three_of_filter : macro_fault (method one "filter" (name "x" ∷ yes ∷ yes ∷ [])) ≡ Some ArgumentCount
  -- has().x
  pub before_a_field : macro_fault (dot of_none "x") ≡ Some ArgumentCount
  -- has()[has(object)]
  pub container_before_index : macro_fault (index of_none of_root) ≡ Some ArgumentCount
  -- [1][has()]
  pub in_an_index : macro_fault (index one of_none) ≡ Some ArgumentCount
  -- !has()
  pub under_an_operator : macro_fault (unary Not of_none) ≡ Some ArgumentCount
  -- 1 + has()
  pub on_the_right : macro_fault (binary Add (num 1) of_none) ≡ Some ArgumentCount
  -- has() ? has(object) : 1
  pub condition_first : macro_fault (ternary of_none of_root (num 1)) ≡ Some ArgumentCount
  -- true ? has() : has(object)
  pub yes_before_no : macro_fault (ternary yes of_none of_root) ≡ Some ArgumentCount
  -- true ? 1 : has()
  pub in_the_last_branch : macro_fault (ternary yes (num 1) of_none) ≡ Some ArgumentCount
  -- [1, has()]
  pub in_a_list : macro_fault (list_literal (num 1 ∷ of_none ∷ [])) ≡ Some ArgumentCount
  -- {has(): has(object)}
  pub key_before_value : macro_fault (map_literal ((of_none, of_root) ∷ [])) ≡ Some ArgumentCount
  -- {'a': 1, 'b': has()}
  pub in_a_later_value : macro_fault (map_literal ((str "a", num 1) ∷ (str "b", of_none) ∷ [])) ≡ Some ArgumentCount
  -- size(has())
  pub in_an_argument : macro_fault (call "size" (of_none ∷ [])) ≡ Some ArgumentCount
  -- has().contains(has(object))
  pub before_a_method : macro_fault (method of_none "contains" (of_root ∷ [])) ≡ Some ArgumentCount
  -- 'a'.contains(has())
  pub in_a_methods_argument : macro_fault (method (str "a") "contains" (of_none ∷ [])) ≡ Some ArgumentCount
