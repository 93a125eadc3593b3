-- Types and faults, worked by hand.
use Rattle.std.specs.Prelude.{◌≡◌, [], ◌∷◌, codes}
use Prim.Native.String.{String}
use Rattle.cel_reader.specs.Tree.{Tree, index, unary, binary, ternary}
use Rattle.cel_reader.specs.declared.operator.BinaryOperator.TheVariants.{Less, Equal, In, Add, Subtract, Or, And}
use Rattle.cel_reader.specs.declared.operator.UnaryOperator.TheVariants.{Not, Negate}
use Rattle.cel_types.specs.declared.cel_type.CelType.TheVariants as type
use Rattle.cel_types.specs.Types.{Typing, typed, refused, UnknownName, NoOverload, MisplacedVariables}
use Rattle.cel_types.specs.Scope.{Scope, name_type}
use Rattle.cel_types.specs.Typing.{typing}
use Rattle.cel_reader.specs.Written.{num, str, yes, no, nothing, name, dot, call, method, list_literal, map_literal}
use Rattle.cel_macros.specs.Written.{variable}

-- a scope with one variable `v` of type int
abbrev pub scope : Scope
scope = record { items = []; variables = (codes "v", type.Int) ∷ [] }

-- in this scope the expression has this type or fault
abbrev pub Types : Tree → Typing → Type 0
Types e t = typing e scope ≡ t

-- a macro over the list without items, with this part for each item
abbrev pub over_none : String → Tree → Tree
over_none macro part = method (list_literal []) macro (name "i" ∷ part ∷ [])

-- expressions with their types or first faults
pub record TypingRows : Type 0 where
  -- 1 < 2 < 3
  pub order_of_truth_and_int : Types (binary Less (binary Less (num 1) (num 2)) (num 3)) (refused NoOverload)
  -- true < false < true
  pub order_of_truths : Types (binary Less (binary Less yes no) yes) (typed type.Bool)
  -- {'a':1}[0]
  pub map_by_int : Types (index (map_literal ((str "a", num 1) ∷ [])) (num 0)) (refused NoOverload)
  -- object[0]
  pub root_by_int : Types (index (name "object") (num 0)) (typed type.Dyn)
  -- object[true]
  pub root_by_truth : Types (index (name "object") yes) (refused NoOverload)
  -- 1 == 'a'
  pub equal_kinds : Types (binary Equal (num 1) (str "a")) (refused NoOverload)
  -- dyn(1) == 'a'
  pub equal_dyn : Types (binary Equal (call "dyn" (num 1 ∷ [])) (str "a")) (typed type.Bool)
  -- object.all(i, 1)
  pub predicate_of_int : Types (method (name "object") "all" (name "i" ∷ num 1 ∷ [])) (refused NoOverload)
  -- object.map(i, i)
  pub transform : Types (method (name "object") "map" (name "i" ∷ name "i" ∷ [])) (typed type.List)
  -- has(object.x)
  pub has_field : Types (call "has" (dot (name "object") "x" ∷ [])) (typed type.Bool)
  -- x
  pub unknown : Types (name "x") (refused UnknownName)
  -- variables
  pub bare_variables : Types (name "variables") (refused MisplacedVariables)
  -- `variables` is a fault also where an iteration name hides it
  pub variables_as_item : name_type (codes "variables") (codes "variables" ∷ []) ≡ refused MisplacedVariables
  -- variables['v']
  pub variables_by_key : Types (index (name "variables") (str "v")) (refused MisplacedVariables)
  -- has(variables.v)
  pub has_of_variable : Types (call "has" (variable "v" ∷ [])) (refused MisplacedVariables)
  -- variables.v
  pub variable_known : Types (variable "v") (typed type.Int)
  -- variables.w
  pub variable_unknown : Types (variable "w") (refused MisplacedVariables)
  -- 'a' + 1
  pub sum_of_kinds : Types (binary Add (str "a") (num 1)) (refused NoOverload)
  -- object + 1
  pub sum_with_dyn : Types (binary Add (name "object") (num 1)) (typed type.Int)
  -- object + object
  pub sum_of_dyn : Types (binary Add (name "object") (name "object")) (typed type.Dyn)
  -- object + null
  pub sum_with_null : Types (binary Add (name "object") nothing) (refused NoOverload)
  -- object + {}
  pub sum_with_map : Types (binary Add (name "object") (map_literal [])) (refused NoOverload)
  -- object < null
  pub order_with_null : Types (binary Less (name "object") nothing) (refused NoOverload)
  -- 1 in {}
  pub int_in_map : Types (binary In (num 1) (map_literal [])) (refused NoOverload)
  -- null in object
  pub null_in_root : Types (binary In nothing (name "object")) (typed type.Bool)
  -- true ? 1 : null
  pub branches_of_kinds : Types (ternary yes (num 1) nothing) (refused NoOverload)
  -- true ? 1 : object
  pub branches_with_dyn : Types (ternary yes (num 1) (name "object")) (typed type.Dyn)
  -- f(x)
  pub part_before_node : Types (call "f" (name "x" ∷ [])) (refused UnknownName)
  -- f(1)
  pub unknown_function : Types (call "f" (num 1 ∷ [])) (refused NoOverload)
  -- 'a'.startsWith(1)
  pub test_of_int : Types (method (str "a") "startsWith" (num 1 ∷ [])) (refused NoOverload)
  -- {1: x}
  pub value_before_key_kind : Types (map_literal ((num 1, name "x") ∷ [])) (refused UnknownName)
  -- {1: 2}
  pub int_key : Types (map_literal ((num 1, num 2) ∷ [])) (refused NoOverload)
  -- string(true)
  pub string_of_truth : Types (call "string" (yes ∷ [])) (refused NoOverload)
  -- 'a'.size()
  pub size_method : Types (method (str "a") "size" []) (typed type.Int)
  -- 'a'.string() and 'a'.dyn()
  pub string_method : Types (method (str "a") "string" []) (refused NoOverload)
  pub dyn_method : Types (method (str "a") "dyn" []) (refused NoOverload)
  -- size([]), size({}) and size(1)
  pub size_of_list : Types (call "size" (list_literal [] ∷ [])) (typed type.Int)
  pub size_of_map : Types (call "size" (map_literal [] ∷ [])) (typed type.Int)
  pub size_of_int : Types (call "size" (num 1 ∷ [])) (refused NoOverload)
  -- [] + [], 'a' + 'b' and true + true
  pub sum_of_lists : Types (binary Add (list_literal []) (list_literal [])) (typed type.List)
  pub sum_of_texts : Types (binary Add (str "a") (str "b")) (typed type.String)
  pub sum_of_truths : Types (binary Add yes yes) (refused NoOverload)
  -- 1 - 1, and 'a' - 'b'
  pub difference_of_ints : Types (binary Subtract (num 1) (num 1)) (typed type.Int)
  pub difference_of_texts : Types (binary Subtract (str "a") (str "b")) (refused NoOverload)
  -- !true, !1, -object and -true
  pub not_of_truth : Types (unary Not yes) (typed type.Bool)
  pub not_of_int : Types (unary Not (num 1)) (refused NoOverload)
  pub negative_of_dyn : Types (unary Negate (name "object")) (typed type.Int)
  pub negative_of_truth : Types (unary Negate yes) (refused NoOverload)
  -- true || false, true && false, and both with 1
  pub or_of_truths : Types (binary Or yes no) (typed type.Bool)
  pub and_of_truths : Types (binary And yes no) (typed type.Bool)
  pub or_of_int : Types (binary Or yes (num 1)) (refused NoOverload)
  pub and_of_int : Types (binary And yes (num 1)) (refused NoOverload)
  -- 'a' < 'b' and [] < []
  pub order_of_texts : Types (binary Less (str "a") (str "b")) (typed type.Bool)
  pub order_of_lists : Types (binary Less (list_literal []) (list_literal [])) (refused NoOverload)
  -- null == null
  pub equal_nulls : Types (binary Equal nothing nothing) (typed type.Bool)
  -- [][0], []['a'], {}['a'] and 'a'[0]
  pub list_by_int : Types (index (list_literal []) (num 0)) (typed type.Dyn)
  pub list_by_text : Types (index (list_literal []) (str "a")) (refused NoOverload)
  pub map_by_text : Types (index (map_literal []) (str "a")) (typed type.Dyn)
  pub text_by_int : Types (index (str "a") (num 0)) (refused NoOverload)
  -- 1 in [], 'a' in {} and 1 in 'a'
  pub int_in_list : Types (binary In (num 1) (list_literal [])) (typed type.Bool)
  pub text_in_map : Types (binary In (str "a") (map_literal [])) (typed type.Bool)
  pub int_in_text : Types (binary In (num 1) (str "a")) (refused NoOverload)
  -- has({}.a) and has([].a)
  pub has_of_map : Types (call "has" (dot (map_literal []) "a" ∷ [])) (typed type.Bool)
  pub has_of_list : Types (call "has" (dot (list_literal []) "a" ∷ [])) (refused NoOverload)
  -- {}.a and [].a
  pub field_of_map : Types (dot (map_literal []) "a") (typed type.Dyn)
  pub field_of_list : Types (dot (list_literal []) "a") (refused NoOverload)
  -- 1 ? 1 : 1
  pub int_as_condition : Types (ternary (num 1) (num 1) (num 1)) (refused NoOverload)
  -- string(1), string('a') and dyn(null)
  pub string_of_int : Types (call "string" (num 1 ∷ [])) (typed type.String)
  pub string_of_text : Types (call "string" (str "a" ∷ [])) (typed type.String)
  pub dyn_of_null : Types (call "dyn" (nothing ∷ [])) (typed type.Dyn)
  -- 'a'.startsWith('b')
  pub test_of_texts : Types (method (str "a") "startsWith" (str "b" ∷ [])) (typed type.Bool)
  -- macros of a list with the predicate true
  pub all_of_truth : Types (over_none "all" yes) (typed type.Bool)
  pub exists_of_truth : Types (over_none "exists" yes) (typed type.Bool)
  pub exists_one_of_truth : Types (over_none "exists_one" yes) (typed type.Bool)
  pub filter_of_truth : Types (over_none "filter" yes) (typed type.List)
  -- the same with the predicate 1
  pub exists_of_int : Types (over_none "exists" (num 1)) (refused NoOverload)
  pub exists_one_of_int : Types (over_none "exists_one" (num 1)) (refused NoOverload)
  pub filter_of_int : Types (over_none "filter" (num 1)) (refused NoOverload)
  -- {}.all(i, true) and 'a'.all(i, true)
  pub all_of_map : Types (method (map_literal []) "all" (name "i" ∷ yes ∷ [])) (typed type.Bool)
  pub all_of_text : Types (method (str "a") "all" (name "i" ∷ yes ∷ [])) (refused NoOverload)
