-- Measures, worked by hand.
use Rattle.std.specs.Prelude.{◌≡◌, ℕ, zero, suc, [], ◌∷◌, codes}
use Rattle.cel_reader.specs.Tree.{Tree, index, unary, binary, ternary}
use Rattle.cel_reader.specs.Written.{num, str, yes, name, dot, call, method, list_literal, map_literal}
use Rattle.cel_reader.specs.declared.operator.BinaryOperator.TheVariants.{And, Equal, Add, Greater}
use Rattle.cel_reader.specs.declared.operator.UnaryOperator.TheVariants.{Not}
use Rattle.cel_macros.specs.CoreTree as core
use Rattle.cel_macros.specs.CoreTree.{expanded}
use Rattle.cel_macros.specs.Written.{variable}
use Rattle.cel_measures.specs.Measures.{nodes, need, depth, deepest}
use Rattle.cel_measures.specs.Saturated.{saturated}

-- the expression has this number of nodes
abbrev pub Nodes : Tree → ℕ → Type 0
Nodes e n = nodes (expanded e) ≡ n

-- the expression needs this number of stack words
abbrev pub Needs : Tree → ℕ → Type 0
Needs e n = need (expanded e) ≡ n

-- the depth, given variables v of depth 1 and w of depth 3
abbrev pub Depth : Tree → ℕ → Type 0
Depth e n = depth (expanded e) ((codes "v", 1) ∷ (codes "w", 3) ∷ []) ≡ n

-- 1 + (1 + (.. + 1)) with n plus signs
abbrev pub to_the_right : ℕ → Tree
to_the_right zero = num 1
to_the_right (suc n) = binary Add (num 1) (to_the_right n)

-- true && true && .. with n operators
abbrev pub conjoined : ℕ → Tree
conjoined zero = yes
conjoined (suc n) = binary And (conjoined n) yes

-- [1].map(x, x > 0, x)
abbrev pub positive : Tree
positive = method (list_literal (num 1 ∷ [])) "map" (name "x" ∷ binary Greater (name "x") (num 0) ∷ name "x" ∷ [])

-- [1].all(x, true)
abbrev pub all_true : Tree
all_true = method (list_literal (num 1 ∷ [])) "all" (name "x" ∷ yes ∷ [])

-- variables.v and variables.w
abbrev pub v : Tree
v = variable "v"

abbrev pub w : Tree
w = variable "w"

-- [1, 1], which needs two words
abbrev pub two_words : Tree
two_words = list_literal (num 1 ∷ num 1 ∷ [])

-- [[1, 1]], which needs three
abbrev pub three_words : Tree
three_words = list_literal (two_words ∷ [])

-- expressions with their measures
pub record MeasureRowsHold : Type 0 where
  -- 1 + (1 + (.. + 1)) == 1
  pub need_of_59 : Needs (binary Equal (to_the_right 59) (num 1)) 60
  pub need_of_60 : Needs (binary Equal (to_the_right 60) (num 1)) 61
  -- true && true && .. with 255 literals; a policy with only this validation has 2 more nodes
  pub conjunction_nodes : Nodes (conjoined 254) 509
  pub conjunction_need : Needs (conjoined 254) 2
  -- the declared name is not a node
  pub map_where_nodes : Nodes positive 7
  pub map_where_need : Needs positive 7
  pub all_nodes : Nodes all_true 4
  pub all_need : Needs all_true 6
  -- [1].map(x, x) == [1]
  pub macro_on_the_left : Needs
      (binary Equal (method (list_literal (num 1 ∷ [])) "map" (name "x" ∷ name "x" ∷ [])) (list_literal (num 1 ∷ []))) 6
  -- [1] == [1].map(x, x)
  pub macro_on_the_right : Needs
      (binary Equal (list_literal (num 1 ∷ [])) (method (list_literal (num 1 ∷ [])) "map" (name "x" ∷ name "x" ∷ []))) 7
  -- has(object.x)
  pub has_nodes : Nodes (call "has" (dot (name "object") "x" ∷ [])) 2
  pub has_need : Needs (call "has" (dot (name "object") "x" ∷ [])) 1
  -- object.spec.replicas
  pub selection_nodes : Nodes (dot (dot (name "object") "spec") "replicas") 3
  -- variables.v.x
  pub variable_nodes : Nodes (dot (variable "v") "x") 2
  -- object[1 + 1]
  pub index_nodes : Nodes (index (name "object") (binary Add (num 1) (num 1))) 5
  pub index_need : Needs (index (name "object") (binary Add (num 1) (num 1))) 3
  -- true ? 1 : 1 + 1
  pub ternary_nodes : Nodes (ternary yes (num 1) (binary Add (num 1) (num 1))) 6
  pub ternary_need : Needs (ternary yes (num 1) (binary Add (num 1) (num 1))) 2
  -- size('a')
  pub call_nodes : Nodes (call "size" (str "a" ∷ [])) 2
  pub call_need : Needs (call "size" (str "a" ∷ [])) 1
  -- 'a'.contains('b')
  pub method_nodes : Nodes (method (str "a") "contains" (str "b" ∷ [])) 3
  pub method_need : Needs (method (str "a") "contains" (str "b" ∷ [])) 2
  -- !true
  pub unary_nodes : Nodes (unary Not yes) 2
  pub unary_need : Needs (unary Not yes) 1
  -- {'a': 1}
  pub map_nodes : Nodes (map_literal ((str "a", num 1) ∷ [])) 3
  pub map_need : Needs (map_literal ((str "a", num 1) ∷ [])) 3
  pub empty_map_need : Needs (map_literal []) 1
  pub empty_list_need : Needs (list_literal []) 1
  -- [1, 1 + 1]
  pub list_nodes : Nodes (list_literal (num 1 ∷ binary Add (num 1) (num 1) ∷ [])) 5
  pub list_need : Needs (list_literal (num 1 ∷ binary Add (num 1) (num 1) ∷ [])) 3
  -- variables.v + variables.w
  pub sum_depth : Depth (binary Add (variable "v") (variable "w")) 4
  -- [1].map(x, variables.v)
  pub macro_depth : Depth (method (list_literal (num 1 ∷ [])) "map" (name "x" ∷ variable "v" ∷ [])) 2
  pub no_variable : Depth yes 1
  -- no variable has this name
  pub unknown_depth : Depth (variable "u") 1
  pub no_depth : deepest (core.variable (codes "v")) [] ≡ 0
  pub some_depth : deepest (core.variable (codes "v")) ((codes "v", 3) ∷ []) ≡ 3
  -- variables.w.x, has(variables.w.x), !variables.w, size(variables.w)
  pub selection_depth : Depth (dot w "x") 4
  pub has_depth : Depth (call "has" (dot w "x" ∷ [])) 4
  pub unary_depth : Depth (unary Not w) 4
  pub call_depth : Depth (call "size" (w ∷ [])) 4
  -- each part in turn has the greatest depth
  pub sum_depth_on_the_left : Depth (binary Add w v) 4
  pub index_depth : Depth (index w v) 4
  pub key_depth : Depth (index v w) 4
  pub method_depth : Depth (method w "contains" (v ∷ [])) 4
  pub argument_depth : Depth (method v "contains" (w ∷ [])) 4
  pub condition_depth : Depth (ternary w v v) 4
  pub then_depth : Depth (ternary v w v) 4
  pub else_depth : Depth (ternary v v w) 4
  pub first_item_depth : Depth (list_literal (w ∷ v ∷ [])) 4
  pub last_item_depth : Depth (list_literal (v ∷ w ∷ [])) 4
  pub map_key_depth : Depth (map_literal ((w, v) ∷ (v, v) ∷ [])) 4
  pub map_value_depth : Depth (map_literal ((v, w) ∷ (v, v) ∷ [])) 4
  pub last_entry_depth : Depth (map_literal ((v, v) ∷ (v, w) ∷ [])) 4
  pub range_depth : Depth (method w "all" (name "x" ∷ v ∷ [])) 4
  pub body_depth : Depth (method v "all" (name "x" ∷ w ∷ [])) 4
  pub map_range_depth : Depth (method w "map" (name "x" ∷ v ∷ v ∷ [])) 4
  pub map_where_depth : Depth (method v "map" (name "x" ∷ w ∷ v ∷ [])) 4
  pub map_body_depth : Depth (method v "map" (name "x" ∷ v ∷ w ∷ [])) 4
  -- each part in turn needs two or three words
  pub left_need : Needs (binary Add three_words (num 1)) 3
  pub right_need : Needs (binary Add (num 1) two_words) 3
  pub indexed_need : Needs (index three_words (num 1)) 3
  pub key_need : Needs (index (num 1) two_words) 3
  pub condition_need : Needs (ternary two_words (num 1) (num 1)) 2
  pub then_need : Needs (ternary yes two_words (num 1)) 2
  pub operand_need : Needs (method three_words "contains" (str "b" ∷ [])) 3
  pub argument_need : Needs (method (str "a") "contains" (two_words ∷ [])) 3
  pub second_argument_need : Needs (method (str "a") "contains" (num 1 ∷ two_words ∷ [])) 3
  pub negated_need : Needs (unary Not two_words) 2
  pub selected_need : Needs (dot two_words "x") 2
  pub no_arguments_need : Needs (call "size" []) 1
  pub one_argument_need : Needs (call "size" (two_words ∷ [])) 2
  pub first_argument_need : Needs (call "size" (two_words ∷ num 1 ∷ [])) 3
  pub last_argument_need : Needs (call "size" (num 1 ∷ two_words ∷ [])) 3
  pub third_argument_need : Needs (call "size" (num 1 ∷ num 1 ∷ two_words ∷ [])) 3
  pub map_key_need : Needs (map_literal ((three_words, num 1) ∷ [])) 4
  pub map_value_need : Needs (map_literal ((num 1, two_words) ∷ [])) 4
  pub last_entry_need : Needs (map_literal ((num 1, num 1) ∷ (num 1, two_words) ∷ [])) 4
  pub first_item_need : Needs (list_literal (two_words ∷ num 1 ∷ [])) 3
  -- a range that needs more than the macro's state and its other parts
  pub range_need : Needs (method (to_the_right 6) "all" (name "x" ∷ yes ∷ [])) 7
  pub map_range_need : Needs (method (to_the_right 6) "map" (name "x" ∷ yes ∷ yes ∷ [])) 7
  pub map_body_need : Needs (method (list_literal (num 1 ∷ [])) "map" (name "x" ∷ yes ∷ two_words ∷ [])) 7
  pub map_test_need : Needs (method (list_literal (num 1 ∷ [])) "map" (name "x" ∷ two_words ∷ num 1 ∷ [])) 7
  pub name_nodes : Nodes (name "object") 1
  pub two_entries_nodes : Nodes (map_literal ((str "a", num 1) ∷ (str "b", binary Add (num 1) (num 1)) ∷ [])) 7
  -- the greatest number of 64 bits
  pub small_number : saturated 5 ≡ 5
  pub greatest_number : saturated 0xffffffffffffffff ≡ 0xffffffffffffffff
  pub past_greatest : saturated 0x10000000000000000 ≡ 0xffffffffffffffff
