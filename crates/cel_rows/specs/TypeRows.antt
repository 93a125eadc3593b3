-- The rows of the type table, each operand by its type: cel-spec's standard definitions, gradually typed, for the types
-- that a policy's expressions have. A row holds of Dyn wherever it holds of a type.
use Rattle.std.specs.Prelude.{◌≡◌, true, false, pos, [], ◌∷◌, Some, None, codes}
use Rattle.cel_reader.specs.Tree as tree
use Rattle.cel_reader.specs.declared.operator.BinaryOperator.TheVariants as op
use Rattle.cel_reader.specs.declared.operator.UnaryOperator.TheVariants as unary
use Rattle.cel_macros.specs.declared.function.Function.TheVariants as function
use Rattle.cel_macros.specs.declared.macros.Macro.TheVariants as macro
use Rattle.cel_macros.specs.declared.text_test.TextTest.TheVariants as test
use Rattle.cel_reader.specs.Written.{call, list_literal, method, name, num, str, yes}
use Rattle.cel_types.specs.declared.cel_type.CelType.TheVariants as type
use Rattle.cel_types.specs.Rows.{Types}
use Rattle.cel_types.specs.Scope.{is_known, name_type, variable_type}
use Rattle.cel_types.specs.Types.{MisplacedVariables, NoOverload, UnknownName, agree, allowed, known_of, refused, same_type, typed}
use Rattle.cel_types.specs.TypeTable.{binary_row, field_row, function_row, has_row, index_row, is_range, is_text_key, literal_type}
use Rattle.cel_types.specs.TypeTable.{macro_row, macro_type, map_literal_row, map_row, method_row, part_allowed}
use Rattle.cel_types.specs.TypeTable.{ternary_row, test_row, unary_row}

-- the types of literals, and of one operand
pub record OperandRowsStand : Type 0 where
  pub int_literal : literal_type (tree.int (pos 1)) ≡ type.Int
  pub text_literal : literal_type (tree.text (codes "a")) ≡ type.String
  pub truth_literal : literal_type (tree.truth true) ≡ type.Bool
  pub null_literal : literal_type tree.null ≡ type.Null
  pub not_of_truth : unary_row unary.Not type.Bool ≡ typed type.Bool
  pub not_of_int : unary_row unary.Not type.Int ≡ refused NoOverload
  pub negative_of_int : unary_row unary.Negate type.Int ≡ typed type.Int
  pub negative_of_text : unary_row unary.Negate type.String ≡ refused NoOverload
  pub negative_of_truth : unary_row unary.Negate type.Bool ≡ refused NoOverload
  pub field_of_map : field_row type.Map ≡ typed type.Dyn
  pub field_of_list : field_row type.List ≡ refused NoOverload
  pub has_in_map : has_row type.Map ≡ typed type.Bool
  pub has_in_text : has_row type.String ≡ refused NoOverload
  pub list_by_int : index_row type.List type.Int ≡ typed type.Dyn
  pub list_by_text : index_row type.List type.String ≡ refused NoOverload
  pub map_by_text : index_row type.Map type.String ≡ typed type.Dyn
  pub map_by_int : index_row type.Map type.Int ≡ refused NoOverload
  pub unknown_by_int : index_row type.Dyn type.Int ≡ typed type.Dyn
  pub unknown_by_text : index_row type.Dyn type.String ≡ typed type.Dyn
  pub unknown_by_truth : index_row type.Dyn type.Bool ≡ refused NoOverload
  pub text_by_int : index_row type.String type.Int ≡ refused NoOverload
  pub null_by_text : index_row type.Null type.String ≡ refused NoOverload

-- the binary operators
pub record BinaryRowsStand : Type 0 where
  pub or_of_truths : binary_row op.Or type.Bool type.Bool ≡ typed type.Bool
  pub or_of_ints : binary_row op.Or type.Int type.Int ≡ refused NoOverload
  pub or_of_truth_and_text : binary_row op.Or type.Bool type.String ≡ refused NoOverload
  pub or_of_text_and_truth : binary_row op.Or type.String type.Bool ≡ refused NoOverload
  pub and_of_truths : binary_row op.And type.Bool type.Bool ≡ typed type.Bool
  pub and_of_ints : binary_row op.And type.Int type.Int ≡ refused NoOverload
  pub and_of_truth_and_text : binary_row op.And type.Bool type.String ≡ refused NoOverload
  pub and_of_text_and_truth : binary_row op.And type.String type.Bool ≡ refused NoOverload
  pub less_of_ints : binary_row op.Less type.Int type.Int ≡ typed type.Bool
  pub less_of_texts : binary_row op.Less type.String type.String ≡ typed type.Bool
  pub less_of_truths : binary_row op.Less type.Bool type.Bool ≡ typed type.Bool
  pub less_of_nulls : binary_row op.Less type.Null type.Null ≡ refused NoOverload
  pub less_of_kinds : binary_row op.Less type.Int type.String ≡ refused NoOverload
  pub less_equal_of_ints : binary_row op.LessEqual type.Int type.Int ≡ typed type.Bool
  pub less_equal_of_texts : binary_row op.LessEqual type.String type.String ≡ typed type.Bool
  pub less_equal_of_truths : binary_row op.LessEqual type.Bool type.Bool ≡ typed type.Bool
  pub less_equal_of_nulls : binary_row op.LessEqual type.Null type.Null ≡ refused NoOverload
  pub less_equal_of_kinds : binary_row op.LessEqual type.Int type.String ≡ refused NoOverload
  pub greater_equal_of_ints : binary_row op.GreaterEqual type.Int type.Int ≡ typed type.Bool
  pub greater_equal_of_texts : binary_row op.GreaterEqual type.String type.String ≡ typed type.Bool
  pub greater_equal_of_truths : binary_row op.GreaterEqual type.Bool type.Bool ≡ typed type.Bool
  pub greater_equal_of_nulls : binary_row op.GreaterEqual type.Null type.Null ≡ refused NoOverload
  pub greater_equal_of_kinds : binary_row op.GreaterEqual type.Int type.String ≡ refused NoOverload
  pub greater_of_ints : binary_row op.Greater type.Int type.Int ≡ typed type.Bool
  pub greater_of_texts : binary_row op.Greater type.String type.String ≡ typed type.Bool
  pub greater_of_truths : binary_row op.Greater type.Bool type.Bool ≡ typed type.Bool
  pub greater_of_nulls : binary_row op.Greater type.Null type.Null ≡ refused NoOverload
  pub greater_of_kinds : binary_row op.Greater type.Int type.String ≡ refused NoOverload
  pub equal_of_maps : binary_row op.Equal type.Map type.Map ≡ typed type.Bool
  pub equal_of_kinds : binary_row op.Equal type.Int type.String ≡ refused NoOverload
  pub equal_of_unknown : binary_row op.Equal type.Int type.Dyn ≡ typed type.Bool
  pub not_equal_of_maps : binary_row op.NotEqual type.Map type.Map ≡ typed type.Bool
  pub not_equal_of_kinds : binary_row op.NotEqual type.Int type.String ≡ refused NoOverload
  pub not_equal_of_unknown : binary_row op.NotEqual type.Int type.Dyn ≡ typed type.Bool
  pub in_list : binary_row op.In type.Null type.List ≡ typed type.Bool
  pub in_map_by_text : binary_row op.In type.String type.Map ≡ typed type.Bool
  pub in_map_by_int : binary_row op.In type.Int type.Map ≡ refused NoOverload
  pub in_unknown : binary_row op.In type.Null type.Dyn ≡ typed type.Bool
  pub in_text : binary_row op.In type.String type.String ≡ refused NoOverload
  pub add_of_ints : binary_row op.Add type.Int type.Int ≡ typed type.Int
  pub add_of_texts : binary_row op.Add type.String type.String ≡ typed type.String
  pub add_of_lists : binary_row op.Add type.List type.List ≡ typed type.List
  pub add_of_truths : binary_row op.Add type.Bool type.Bool ≡ refused NoOverload
  pub add_of_unknown_and_text : binary_row op.Add type.Dyn type.String ≡ typed type.String
  pub add_of_text_and_unknown : binary_row op.Add type.String type.Dyn ≡ typed type.String
  pub add_of_kinds : binary_row op.Add type.Int type.List ≡ refused NoOverload
  pub subtract_of_ints : binary_row op.Subtract type.Int type.Int ≡ typed type.Int
  pub subtract_of_texts : binary_row op.Subtract type.String type.String ≡ refused NoOverload
  pub subtract_of_int_and_list : binary_row op.Subtract type.Int type.List ≡ refused NoOverload
  pub multiply_of_ints : binary_row op.Multiply type.Int type.Int ≡ typed type.Int
  pub multiply_of_texts : binary_row op.Multiply type.String type.String ≡ refused NoOverload
  pub multiply_of_int_and_list : binary_row op.Multiply type.Int type.List ≡ refused NoOverload
  pub divide_of_ints : binary_row op.Divide type.Int type.Int ≡ typed type.Int
  pub divide_of_texts : binary_row op.Divide type.String type.String ≡ refused NoOverload
  pub divide_of_int_and_list : binary_row op.Divide type.Int type.List ≡ refused NoOverload
  pub remainder_of_ints : binary_row op.Remainder type.Int type.Int ≡ typed type.Int
  pub remainder_of_texts : binary_row op.Remainder type.String type.String ≡ refused NoOverload
  pub remainder_of_int_and_list : binary_row op.Remainder type.Int type.List ≡ refused NoOverload

-- conditionals, functions, methods and tests of texts
pub record CallRowsStand : Type 0 where
  pub branches_of_one_type : ternary_row type.Bool type.Int type.Int ≡ typed type.Int
  pub branches_of_two_types : ternary_row type.Bool type.Int type.String ≡ refused NoOverload
  pub first_branch_unknown : ternary_row type.Bool type.Dyn type.Int ≡ typed type.Dyn
  pub last_branch_unknown : ternary_row type.Bool type.Int type.Dyn ≡ typed type.Dyn
  pub condition_of_int : ternary_row type.Int type.Int type.Int ≡ refused NoOverload
  pub size_of_text : function_row (Some function.Size) type.String ≡ typed type.Int
  pub size_of_list : function_row (Some function.Size) type.List ≡ typed type.Int
  pub size_of_map : function_row (Some function.Size) type.Map ≡ typed type.Int
  pub size_of_null : function_row (Some function.Size) type.Null ≡ refused NoOverload
  pub string_of_int : function_row (Some function.String) type.Int ≡ typed type.String
  pub string_of_text : function_row (Some function.String) type.String ≡ typed type.String
  pub string_of_truth : function_row (Some function.String) type.Bool ≡ refused NoOverload
  pub dyn_of_null : function_row (Some function.Dyn) type.Null ≡ typed type.Dyn
  pub no_function : function_row None type.Int ≡ refused NoOverload
  pub size_method : method_row (Some function.Size) type.List ≡ typed type.Int
  pub string_method : method_row (Some function.String) type.Int ≡ refused NoOverload
  pub no_method : method_row None type.List ≡ refused NoOverload
  pub starts_with : test_row (Some test.StartsWith) type.String type.String ≡ typed type.Bool
  pub starts_with_int : test_row (Some test.StartsWith) type.String type.Int ≡ refused NoOverload
  pub list_starts_with : test_row (Some test.Contains) type.List type.String ≡ refused NoOverload
  pub no_test : test_row None type.String type.String ≡ refused NoOverload

-- macros, and map literals
pub record MacroTypesStand : Type 0 where
  pub transform_to_int : part_allowed macro.Map type.Int ≡ true
  pub predicate_of_truth : part_allowed macro.All type.Bool ≡ true
  pub predicate_of_int : part_allowed macro.All type.Int ≡ false
  pub chosen_by_int : part_allowed macro.Filter type.Int ≡ false
  pub type_of_all : macro_type macro.All ≡ type.Bool
  pub type_of_exists : macro_type macro.Exists ≡ type.Bool
  pub type_of_exists_one : macro_type macro.ExistsOne ≡ type.Bool
  pub type_of_filter : macro_type macro.Filter ≡ type.List
  pub type_of_map : macro_type macro.Map ≡ type.List
  pub range_of_list : is_range type.List ≡ true
  pub range_of_map : is_range type.Map ≡ true
  pub range_of_text : is_range type.String ≡ false
  pub map_to_ints : macro_row macro.Map type.List type.Int ≡ typed type.List
  pub map_of_text : macro_row macro.Map type.String type.Int ≡ refused NoOverload
  pub all_by_truth : macro_row macro.All type.Map type.Bool ≡ typed type.Bool
  pub all_by_int : macro_row macro.All type.Map type.Int ≡ refused NoOverload
  pub chosen_map : map_row type.List type.Bool type.Int ≡ typed type.List
  pub chosen_map_by_int : map_row type.List type.Int type.Bool ≡ refused NoOverload
  pub chosen_map_of_text : map_row type.String type.Bool type.Int ≡ refused NoOverload
  pub text_key : is_text_key (typed type.String) ≡ true
  pub unknown_key : is_text_key (typed type.Dyn) ≡ true
  pub int_key : is_text_key (typed type.Int) ≡ false
  pub key_with_fault : is_text_key (refused NoOverload) ≡ false
  pub map_by_texts : map_literal_row true ≡ typed type.Map
  pub map_by_others : map_literal_row false ≡ refused NoOverload

-- when two types go together, and the names of a scope
pub record AgreementRowsStand : Type 0 where
  pub bool_is_bool : same_type type.Bool type.Bool ≡ true
  pub int_is_int : same_type type.Int type.Int ≡ true
  pub text_is_text : same_type type.String type.String ≡ true
  pub null_is_null : same_type type.Null type.Null ≡ true
  pub list_is_list : same_type type.List type.List ≡ true
  pub map_is_map : same_type type.Map type.Map ≡ true
  pub dyn_is_dyn : same_type type.Dyn type.Dyn ≡ true
  pub list_is_no_map : same_type type.List type.Map ≡ false
  pub dyn_is_no_map : same_type type.Dyn type.Map ≡ false
  pub first_unknown : agree type.Dyn type.Int ≡ true
  pub last_unknown : agree type.Int type.Dyn ≡ true
  pub two_known : agree type.Int type.Bool ≡ false
  pub none_allowed : allowed [] type.Int ≡ false
  pub unknown_allowed : allowed [] type.Dyn ≡ true
  pub last_allowed : allowed (type.Int ∷ type.Map ∷ []) type.Map ≡ true
  pub known_first : known_of type.Int type.Dyn ≡ type.Int
  pub known_last : known_of type.Dyn type.Int ≡ type.Int
  pub root : is_known (codes "params") [] ≡ true
  pub item : is_known (codes "i") (codes "j" ∷ codes "i" ∷ []) ≡ true
  pub neither : is_known (codes "k") (codes "j" ∷ codes "i" ∷ []) ≡ false
  pub item_name : name_type (codes "i") (codes "i" ∷ []) ≡ typed type.Dyn
  pub root_name : name_type (codes "request") [] ≡ typed type.Dyn
  pub unknown_name : name_type (codes "j") (codes "i" ∷ []) ≡ refused UnknownName
  pub variable : variable_type (codes "v") ((codes "u", type.Int) ∷ (codes "v", type.List) ∷ []) ≡ typed type.List
  pub no_variable : variable_type (codes "w") ((codes "v", type.List) ∷ []) ≡ refused MisplacedVariables

-- macros and calls with three arguments, and the fault that comes first
pub record ThreeArgumentRowsStand : Type 0 where
  -- [1].map(i, true, 'a'), and with the predicate and the transform exchanged
  pub chosen : Types (method (list_literal (num 1 ∷ [])) "map" (name "i" ∷ yes ∷ str "a" ∷ [])) (typed type.List)
  pub chosen_by_text : Types (method (list_literal (num 1 ∷ [])) "map" (name "i" ∷ str "a" ∷ yes ∷ [])) (refused NoOverload)
  -- 'a'.map(i, true, i)
  pub chosen_of_text : Types (method (str "a") "map" (name "i" ∷ yes ∷ name "i" ∷ [])) (refused NoOverload)
  -- [1].map(i, i, j) and [1].map(i, j, 1): the iteration name is known in both, j in none
  pub unknown_transform : Types (method (list_literal (num 1 ∷ [])) "map" (name "i" ∷ name "i" ∷ name "j" ∷ [])) (refused UnknownName)
  pub unknown_predicate : Types (method (list_literal (num 1 ∷ [])) "map" (name "i" ∷ name "j" ∷ num 1 ∷ [])) (refused UnknownName)
  -- f(1, x) and 1.f(1, 1, 1, x): parts come before their node
  pub last_argument : Types (call "f" (num 1 ∷ name "x" ∷ [])) (refused UnknownName)
  pub fourth_argument : Types (method (num 1) "f" (num 1 ∷ num 1 ∷ num 1 ∷ name "x" ∷ [])) (refused UnknownName)
  -- variables.f(1, 1, 1, x) and 1.f(variables, x)
  pub operand_first : Types (method (name "variables") "f" (num 1 ∷ num 1 ∷ num 1 ∷ name "x" ∷ [])) (refused MisplacedVariables)
  pub argument_first : Types (method (num 1) "f" (name "variables" ∷ name "x" ∷ [])) (refused MisplacedVariables)
  pub two_arguments : Types (method (num 1) "f" (num 1 ∷ num 1 ∷ [])) (refused NoOverload)
