-- Visits and sizes, worked by hand.
use Rattle.std.specs.Prelude.{◌≡◌, ℕ, zero, suc, [], ◌∷◌, codes, true, false, pos}
use Rattle.cel_reader.specs.Tree.{Tree, binary, ternary, index}
use Rattle.cel_reader.specs.declared.operator.BinaryOperator.TheVariants.{And, Or, LessEqual, Equal, Divide, Greater}
use Rattle.cel_reader.specs.Written.{num, str, yes, no, name, dot, call, method, list_literal, map_literal}
use Rattle.value_store.specs.Value.{Value, int, map, list, item, no_items}
use Rattle.cel_macros.specs.Environment.{Environment, bind}
use Rattle.cel_macros.specs.Written.{variable, entries_of, review}
use Rattle.tree_code.specs.Cost.{cost, work_of, spent_of}

-- an environment whose object is {"spec":{"replicas":5}}
abbrev pub five : Environment
five =
    record review {
      roots = record review.roots
          { object = map (entries_of ((codes "spec", map (entries_of ((codes "replicas", int (pos 5)) ∷ []))) ∷ [])) };
    }

-- object.spec.replicas <= 3
abbrev pub at_most_three : Tree
at_most_three = binary LessEqual (dot (dot (name "object") "spec") "replicas") (num 3)

-- 1 / 0 == 1
abbrev pub wrong : Tree
wrong = binary Equal (binary Divide (num 1) (num 0)) (num 1)

-- n nested lists around an empty one
abbrev pub nested : ℕ → Value
nested zero = list no_items
nested (suc n) = list (item (nested n) no_items)

-- an environment where x is this value
abbrev pub with_nested : ℕ → Environment
with_nested n = bind (codes "x") (nested n) review

-- with this x, the expression would build a list or map that is too deep
abbrev pub IsDeepAt : Tree → ℕ → Type 0
IsDeepAt e n = (cost e (with_nested n)).is_deep ≡ true

-- with this x, it builds none
abbrev pub IsShallowAt : Tree → ℕ → Type 0
IsShallowAt e n = (cost e (with_nested n)).is_deep ≡ false

-- expressions with their visits, their costs or their depths
pub record CostRows : Type 0 where
  -- an operator, two selections, a name and a literal
  pub policy_work : work_of at_most_three five ≡ 5
  -- 8 * 5, results of sizes 1, 1, 11, 17 and 1, and field names of 9 and 5 bytes
  pub policy_spent : spent_of at_most_three five ≡ 85
  -- false && 1 / 0 == 1
  pub both_sides_of_and : work_of (binary And no wrong) review ≡ 7
  -- true || 1 / 0 == 1
  pub both_sides_of_or : work_of (binary Or yes wrong) review ≡ 7
  -- true ? 1 : 1 / 0
  pub chosen_branch : work_of (ternary yes (num 1) (binary Divide (num 1) (num 0))) review ≡ 3
  -- false ? 1 : 1 / 0
  pub other_branch : work_of (ternary no (num 1) (binary Divide (num 1) (num 0))) review ≡ 5
  -- 1 / 0 == 1 ? 1 : 2, with no branch visited
  pub no_branch : work_of (ternary wrong (num 1) (num 2)) review ≡ 6
  -- [1, 2].all(x, false): the macro, the list and its two items; for each item one visit and the predicate
  pub every_item : work_of (method (list_literal (num 1 ∷ num 2 ∷ [])) "all" (name "x" ∷ no ∷ [])) review ≡ 8
  -- {'a': 1}.exists(k, true): the macro, the literal, its key and value; for the key one visit and the predicate
  pub every_key : work_of (method (map_literal ((str "a", num 1) ∷ [])) "exists" (name "k" ∷ yes ∷ [])) review ≡ 6
  -- [1, 2].map(x, x == 2, x): the transform is visited for one item
  pub chosen_items : work_of (method (list_literal (num 1 ∷ num 2 ∷ [])) "map" (name "x" ∷ binary Equal (name "x") (num 2) ∷ name "x" ∷ []))
      review
      ≡ 13
  -- [1, 2].map(x, x)
  pub every_transform : work_of (method (list_literal (num 1 ∷ num 2 ∷ [])) "map" (name "x" ∷ name "x" ∷ [])) review ≡ 8
  -- dyn(1).all(x, true): the macro, the call and its literal; there is no item
  pub no_range : work_of (method (call "dyn" (num 1 ∷ [])) "all" (name "x" ∷ yes ∷ [])) review ≡ 3
  -- has(object.spec) is two nodes: 8 * 2, results of sizes 1 and 17, and a field name of 5 bytes
  pub has_spent : spent_of (call "has" (dot (name "object") "spec" ∷ [])) five ≡ 39
  -- a text and a field name build no list and no map
  pub shallow_text : IsShallowAt (str "ab") 0
  pub shallow_selection : IsShallowAt (dot (name "object") "ab") 0
  -- 'ab': one node with a result of size 3, and a text of size 3
  pub text_spent : spent_of (str "ab") review ≡ 14
  -- variables.one is one node with a result of size 1
  pub variable_spent : spent_of (variable "one") review ≡ 9
  -- object['spec']: three nodes with results of sizes 11, 17 and 5, and a text of size 5
  pub index_spent : spent_of (index (name "object") (str "spec")) five ≡ 62
  -- 1 / 0: three nodes; the error has size 1
  pub error_spent : spent_of (binary Divide (num 1) (num 0)) review ≡ 27
  -- [1, 2].all(x, false): eight visits, of which the two items have no size of their own; results of sizes 1, 3, 1,
  -- 1, 1 and 1
  pub items_spent : spent_of (method (list_literal (num 1 ∷ num 2 ∷ [])) "all" (name "x" ∷ no ∷ [])) review ≡ 72
  -- [1, 2].map(x, x == 2, 'ab'): thirteen visits; results of sizes 4, 3, 1 and 1, three of 1 for each item, and 3 for
  -- the one transform, with its text of 3
  pub transform_spent : spent_of
      (method (list_literal (num 1 ∷ num 2 ∷ [])) "map" (name "x" ∷ binary Equal (name "x") (num 2) ∷ str "ab" ∷ [])) review
      ≡ 125
  -- 'ab'.size(): two nodes with results of sizes 1 and 3, and a text of size 3
  pub method_spent : spent_of (method (str "ab") "size" []) review ≡ 23
  -- [x], with x of depth 254 and of depth 255
  pub not_yet_deep : IsShallowAt (list_literal (name "x" ∷ [])) 253
  pub deep : IsDeepAt (list_literal (name "x" ∷ [])) 254
  -- [[x]], with x of depth 254: the inner list already has the greatest depth
  pub deep_inside : IsDeepAt (list_literal (list_literal (name "x" ∷ []) ∷ [])) 253
  -- {'a': x}
  pub deep_entry : IsDeepAt (map_literal ((str "a", name "x") ∷ [])) 254
  -- [1 / 0, x], although the whole is an error
  pub deep_in_error : IsDeepAt (list_literal (binary Divide (num 1) (num 0) ∷ name "x" ∷ [])) 254
  -- [1].map(i, x), and with the predicate i > 1
  pub deep_transform : IsDeepAt (method (list_literal (num 1 ∷ [])) "map" (name "i" ∷ name "x" ∷ [])) 254
  pub deep_transform_not_kept : IsShallowAt
      (method (list_literal (num 1 ∷ [])) "map" (name "i" ∷ binary Greater (name "i") (num 1) ∷ name "x" ∷ [])) 254
  -- x.filter(i, true), with an item of depth 255; and with the item not kept
  pub deep_item : IsDeepAt (method (name "x") "filter" (name "i" ∷ yes ∷ [])) 255
  pub deep_item_not_kept : IsShallowAt (method (name "x") "filter" (name "i" ∷ no ∷ [])) 255
  -- x.all(i, true)
  pub nothing_kept : IsShallowAt (method (name "x") "all" (name "i" ∷ yes ∷ [])) 255
