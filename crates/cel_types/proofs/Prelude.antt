-- The names of the library, of the crates below and of the definitions that these proofs use. Declares nothing.
pub use Rattle.std.proofs.Common.{Bool, Contains, Err, IfErr, IfOk, IfSome, List, None, Ok, Option, Result, Some, ℕ}
pub use Rattle.std.proofs.Common.{ℤ, [], ap, arith, cond, drop, false, if◌then◌else◌, inl, inr, int_div, int_rem}
pub use Rattle.std.proofs.Common.{is_some, length, map, refl, rules, subst, suc, sym, true, ◌&&◌, ◌<◌, ◌∙◌, ◌∷◌, ◌≡◌}
pub use Rattle.std.proofs.Common.{IsSome, ◌⊎◌}
pub use Rattle.std.proofs.lemmas.List.Elements.{All-contains, All-from_recursion}
pub use Rattle.std.proofs.lemmas.List.Folds.{list_any_at}
pub use Rattle.std.specs.Bool.{⊤}
pub use Rattle.std.specs.List.{AllByRecursion, list_all, list_any}
pub use Rattle.cel_macros.specs.Arithmetic.{fits, int_or_error, is_zero, on_ints, quotient, remainder, sum_of}
pub use Rattle.cel_macros.specs.Callee.{Callee, callee_name, function_in, test_in}
pub use Rattle.cel_macros.specs.Comparison.{member_of, on_values}
pub use Rattle.cel_macros.specs.CoreTree.{CoreEntries, Core, Cores, binary, call, call_or_has, fold, fold_map, has}
pub use Rattle.cel_macros.specs.CoreTree.{index, list, method, method_or_fold, method_or_fold_map, more_core_entries}
pub use Rattle.cel_macros.specs.CoreTree.{more_cores, name, no_core_entries, no_cores, one_core, select, selection}
pub use Rattle.cel_macros.specs.CoreTree.{ternary, unary}
pub use Rattle.cel_macros.specs.CoreView.{core_entries, core_view, cores}
pub use Rattle.cel_macros.specs.CoreViewLaws.{view_call, view_map, view_method}
pub use Rattle.cel_macros.specs.Environment.{Environment, bind, lookup}
pub use Rattle.cel_macros.specs.Expanding.{core_pair}
pub use Rattle.cel_macros.specs.Functions.{method_of, text_test_of}
pub use Rattle.cel_macros.specs.declared.function.Function.{Function}
pub use Rattle.cel_macros.specs.declared.function.Function.TheVariants.{Dyn, Size, String}
pub use Rattle.cel_macros.specs.declared.text_test.TextTest.{TextTest}
pub use Rattle.cel_macros.specs.Literals.{entries_in, list_literal, list_or_error, literal_of, map_literal}
pub use Rattle.cel_macros.specs.Literals.{map_or_error, values_in}
pub use Rattle.cel_macros.specs.Logic.{Truth, of_truth, ternary_of}
pub use Rattle.cel_macros.specs.Macros.{field_name, macro_name, map_over_range, name_of, over_range, range_of}
pub use Rattle.cel_macros.specs.Meaning.{binary_of, called, selected, unary_of}
pub use Rattle.cel_macros.specs.declared.core_tree.Core.{Core as CodeCore}
pub use Rattle.cel_macros.specs.declared.macros.Macro.{Macro}
pub use Rattle.cel_macros.specs.declared.macros.Macro.TheVariants.{All, Exists, ExistsOne, Filter, Map}
unfoldable pub use Rattle.cel_macros.specs.CoreTree.{expanded, expanded_entries, expanded_operand, expanded_trees}
unfoldable pub use Rattle.cel_macros.specs.CoreTree.{plain_entries, plain_tree, plain_trees}
unfoldable pub use Rattle.cel_macros.specs.Environment.{is_root, name_value}
unfoldable pub use Rattle.cel_macros.specs.Functions.{function_named, test_named}
unfoldable pub use Rattle.cel_macros.specs.Macros.{is_has, is_map, is_variables, macro_named}
unfoldable pub use Rattle.cel_macros.specs.Meaning.{entry_meanings, meaning, meanings, operand_meaning}
pub use Rattle.cel_reader.specs.Tree.{TreeEntries, Tree, Trees, more_entries, more_trees, no_entries, no_trees, tree_list}
pub use Rattle.cel_reader.specs.declared.operator.BinaryOperator.{BinaryOperator}
pub use Rattle.cel_reader.specs.declared.operator.UnaryOperator.{UnaryOperator}
pub use Rattle.value_store.specs.Value.{Value, ValueOrError, error, int, value}
pub use Rattle.cel_types.specs.CoreTyping.{call_typing, method_typing}
pub use Rattle.cel_types.specs.Declarations.{declaration, scope_of, types_of}
pub use Rattle.cel_types.specs.Iterations.{scope_within}
pub use Rattle.cel_types.specs.Relation.{Fault, FaultsAreFirst, FirstFault, Has, Have, OneTypeOrFault, TypesAreRows}
pub use Rattle.cel_types.specs.Relation.{at_node, behind, by_row, cause, here, in_part, in_scope, keys_and_values}
pub use Rattle.cel_types.specs.Relation.{next_part, no_parts, parts_of}
pub use Rattle.cel_types.specs.Scope.{Scope, within}
pub use Rattle.cel_types.specs.Soundness.{FitsType, FitsScope, IsSound}
pub use Rattle.cel_types.specs.TypeRows.{HasTextKeys, IsRow, MayAgree, MayBe, MayBeOne, MayBothBeOne, a_choice, a_dyn}
pub use Rattle.cel_types.specs.TypeRows.{a_field, a_filter, a_filtered_transform, a_has, a_key, a_list, a_literal}
pub use Rattle.cel_types.specs.TypeRows.{a_logic, a_map, a_member, a_name, a_negation, a_not, a_quantifier, a_size}
pub use Rattle.cel_types.specs.TypeRows.{a_size_method, a_string, a_sum, a_test, a_transform, a_variable}
pub use Rattle.cel_types.specs.TypeRows.{an_arithmetic, an_entry, an_equality, an_item, an_order, dynamic, known}
pub use Rattle.cel_types.specs.TypeRows.{next_key, no_keys}
pub use Rattle.cel_types.specs.TypeTable.{binary_row, field_row, function_row, has_row, index_row, is_range}
pub use Rattle.cel_types.specs.TypeTable.{is_text_key, literal_type, macro_row, map_literal_row, map_row, member_row}
pub use Rattle.cel_types.specs.TypeTable.{method_row, order_row, sum_row, ternary_row, test_row, unary_row}
pub use Rattle.cel_types.specs.Types.{MisplacedVariables, NoOverload, TypeFault, Typing, UnknownName, agree, allowed}
pub use Rattle.cel_types.specs.Types.{both_allowed, fault_of, known_of, refused, row, same_type, typed, typing_of}
pub use Rattle.cel_types.specs.Types.{with_type, with_types}
pub use Rattle.cel_types.specs.Typing.{HasFault, HasType, call_type, fold_map_type, fold_type, selected_type}
pub use Rattle.cel_types.specs.declared.cel_type.CelType.{CelType}
pub use Rattle.cel_types.specs.declared.type_error.TypeError.{TypeError}
unfoldable pub use Rattle.cel_types.specs.CoreTyping.{core_entry_typings, core_key_typings, core_typing, core_typings}
unfoldable pub use Rattle.cel_types.specs.Scope.{name_type, variable_type}
unfoldable pub use Rattle.cel_types.specs.Typing.{entry_typings, key_typings, operand_typing, typing, typings}
