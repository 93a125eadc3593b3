-- The names of the library, of the crates below and of the definitions that these proofs use. Declares nothing.
pub use Rattle.std.proofs.Common.{Bool, IfOk, IfSome, IsSome, List, None, Option, Result, Some}
pub use Rattle.std.proofs.Common.{ℕ, ℤ, [], add-one, ap, append-nil, append_assoc, arith, bytes_eq, codes, drop}
pub use Rattle.std.proofs.Common.{drop-cons, false, get_or, if◌then◌else◌, length, length-append, negsuc}
pub use Rattle.std.proofs.Common.{map, min, option_map, pos, refl, rules, slice_get, string_bytes, string_eq, subst}
pub use Rattle.std.proofs.Common.{suc, sym, take, true, unwrap_or, zero, ◌&&◌, ◌*◌, ◌++◌, ◌+◌, ◌-◌, ◌<◌, ◌^◌, ◌||◌}
pub use Rattle.std.proofs.Common.{◌∙◌, ◌∷◌, ◌≡◌, ◌≤◌}
pub use Rattle.std.proofs.lemmas.Bool.{and_from, eqb-true}
pub use Rattle.std.proofs.lemmas.Int.{ints, to_z-of_z}
pub use Rattle.std.proofs.lemmas.List.{drop-drop, drop_at, length-map, map-append, take_at}
pub use Rattle.std.proofs.lemmas.List.Folds.{list_any-append}
pub use Rattle.std.proofs.lemmas.Simd.{map-map}
pub use Rattle.std.proofs.lemmas.Slice.Eq.{bytes_eq-Decides}
pub use Rattle.std.proofs.lemmas.Str.{IsUtf8-string_bytes, is_utf8-from_IsUtf8}
pub use Rattle.std.specs.Borrow.{Bor}
pub use Rattle.std.specs.Cmp.Lexicographic.{bytes_decides}
pub use Rattle.std.specs.List.{AllByRecursion, list_any, zip}
pub use Rattle.std.specs.declared.alloc.AllocError.{AllocError}
pub use Rattle.std.specs.declared.alloc.Global.{Global}
pub use Rattle.std.specs.declared.vec.Vec.{Vec}
pub use Rattle.bpf_machine.specs.Limits.{record_limit}
pub use Rattle.bpf_machine.specs.Operands.{is_frame_pointer}
pub use Rattle.cel_macros.proofs.Callees.{function_again, function_stays, not_has, test_again, test_stays}
pub use Rattle.cel_macros.proofs.Folds.{fold_maps_mean, folds_mean}
pub use Rattle.cel_macros.specs.Arithmetic.{difference_of, negation_of, product_of, quotient_of, remainder_of, sum_of}
pub use Rattle.cel_macros.specs.Callee.{Callee, callee_name, callee_view, function_in, test_in}
pub use Rattle.cel_macros.specs.Comparison.{equal_of, greater_equal_of, greater_of, less_equal_of, less_of, member_of}
pub use Rattle.cel_macros.specs.Comparison.{unequal_of}
pub use Rattle.cel_macros.specs.CoreTree.{CoreEntries, Core, Cores, binary, call, call_or_has, fold, fold_map, has}
pub use Rattle.cel_macros.specs.CoreTree.{index, list, literal, method, method_or_fold, method_or_fold_map}
pub use Rattle.cel_macros.specs.CoreTree.{more_core_entries, more_cores, name, no_core_entries, no_cores, one_core}
pub use Rattle.cel_macros.specs.CoreTree.{select, selection, ternary, unary, variable}
pub use Rattle.cel_macros.specs.CoreView.{core_entries, core_view, cores}
pub use Rattle.cel_macros.specs.CoreViewLaws.{view_map}
pub use Rattle.cel_macros.specs.Environment.{Environment, Roots, bind, lookup}
pub use Rattle.cel_macros.specs.Expanding.{core_pair}
pub use Rattle.cel_macros.specs.FoldMeaning.{folded, folded_map}
pub use Rattle.cel_macros.specs.Functions.{function_of, method_of, string_of}
pub use Rattle.cel_macros.specs.declared.function.Function.{Function}
pub use Rattle.cel_macros.specs.declared.function.Function.TheVariants.{Dyn, Size, String}
pub use Rattle.cel_macros.specs.declared.text_test.TextTest.{TextTest}
pub use Rattle.cel_macros.specs.Functions.{text_test_of}
pub use Rattle.cel_macros.specs.Literals.{list_literal, literal_of, map_literal}
pub use Rattle.cel_macros.specs.Logic.{No, Truth, Yes, and_of, chosen, not_of, or_of, ternary_of, truth}
pub use Rattle.cel_macros.specs.Macros.{field_name, macro_name, map_over_range, name_of, over_range, range_of}
pub use Rattle.cel_macros.specs.Meaning.{binary_of, called, selected, unary_of}
pub use Rattle.cel_macros.specs.Selection.{field_of, has_of, index_of}
pub use Rattle.cel_macros.specs.declared.core_tree.Core.{Core as CodeCore}
pub use Rattle.cel_macros.specs.declared.macros.Macro.{Macro}
unfoldable pub use Rattle.cel_macros.specs.Callee.{callee_named}
unfoldable pub use Rattle.cel_macros.specs.CoreTree.{expanded, expanded_entries, expanded_operand, expanded_trees}
unfoldable pub use Rattle.cel_macros.specs.CoreTree.{plain_entries, plain_tree, plain_trees}
unfoldable pub use Rattle.cel_macros.specs.Environment.{name_value, variable_value}
unfoldable pub use Rattle.cel_macros.specs.Functions.{function_named, test_named}
unfoldable pub use Rattle.cel_macros.specs.Macros.{is_has, is_map, is_variables, macro_named}
unfoldable pub use Rattle.cel_macros.specs.Meaning.{entry_meanings, meaning, meanings, operand_meaning}
pub use Rattle.cel_measures.specs.Measures.{depth}
pub use Rattle.cel_measures.specs.Saturated.{saturated}
unfoldable pub use Rattle.cel_measures.specs.Measures.{deepest, deepest_of, entries_deepest, entries_need}
unfoldable pub use Rattle.cel_measures.specs.Measures.{entries_nodes, need, needs, nodes, nodes_of}
pub use Rattle.cel_reader.specs.Tree.{TreeEntries, Tree, Trees, more_entries, more_trees, no_entries, no_trees}
pub use Rattle.cel_reader.specs.WellFormed.{IsWellFormedLiteral}
pub use Rattle.cel_reader.specs.declared.operator.BinaryOperator.{BinaryOperator}
pub use Rattle.cel_reader.specs.declared.operator.UnaryOperator.{UnaryOperator}
pub use Rattle.cel_types.specs.Declarations.{Declaration, declaration, depths_of, scope_of}
pub use Rattle.cel_types.specs.Scope.{Scope, within}
pub use Rattle.cel_types.specs.TypeTable.{binary_row, field_row, has_row, index_row, macro_row, map_row, ternary_row}
pub use Rattle.cel_types.specs.TypeTable.{test_row, unary_row}
pub use Rattle.cel_types.specs.Types.{Typing, refused, typed, with_type, with_types}
pub use Rattle.cel_types.specs.declared.cel_type.CelType.{CelType}
unfoldable pub use Rattle.cel_types.specs.CoreTyping.{core_entry_typings, core_typing, core_typings}
unfoldable pub use Rattle.cel_types.specs.Scope.{name_type, variable_type}
pub use Rattle.expression_code.proofs.Additions.{difference_gives, sum_gives}
pub use Rattle.expression_code.proofs.Comparison.{comparison_gives}
pub use Rattle.expression_code.proofs.Insns.{MayBeNear, absorbing_insns, clear_insns, difference_insns, divided_insns, entry_insns, kept_list_insns}
pub use Rattle.expression_code.proofs.Insns.{equal_insns, field_insns, has_insns, index_insns, insns_append, item_insns}
pub use Rattle.expression_code.proofs.Insns.{leaf_insns, less_insns, list_insns, macro_insns, map_insns, map_where_insns}
pub use Rattle.expression_code.proofs.Insns.{member_insns, name_insns, name_near, negation_insns, not_insns}
pub use Rattle.expression_code.proofs.Insns.{not_less_insns, operand_insns, operands_insns, product_insns, size_insns}
pub use Rattle.expression_code.proofs.Insns.{string_insns, sum_insns, ternary_insns, test_insns, unequal_insns}
pub use Rattle.expression_code.proofs.KeptLists.{kept_lists_give}
pub use Rattle.expression_code.proofs.Later.{later_gives, wider_gives}
pub use Rattle.expression_code.proofs.Leaves.{leaf_gives, leaves_give, leaves_name}
pub use Rattle.expression_code.proofs.Lists.{list_gives}
pub use Rattle.expression_code.proofs.Loaded.{leaf_size}
pub use Rattle.expression_code.proofs.Logic.{logic_gives}
pub use Rattle.expression_code.proofs.Loops.{fold_size, loop_size}
pub use Rattle.expression_code.proofs.Folds.All.{macro_gives}
pub use Rattle.expression_code.proofs.Folds.Budgets.{gives_within}
pub use Rattle.expression_code.proofs.Folds.MapsWhere.{map_where_gives}
pub use Rattle.expression_code.proofs.Maps.{map_gives}
pub use Rattle.expression_code.proofs.Multiplications.{products_give}
pub use Rattle.expression_code.proofs.Negation.{negation_gives}
pub use Rattle.expression_code.proofs.Operators.{one_gives, two_gives}
pub use Rattle.expression_code.proofs.Paths.{paths_give}
pub use Rattle.expression_code.proofs.Pieces.{size-append, size-cons, stands_first}
pub use Rattle.expression_code.proofs.Runs.{done, looser}
pub use Rattle.expression_code.proofs.Scopes.{scope_begins, scope_gives, scope_grows}
pub use Rattle.expression_code.proofs.Selection.{selection_gives}
pub use Rattle.expression_code.proofs.Steps.{jump}
pub use Rattle.expression_code.specs.CpuState.{CpuState}
pub use Rattle.expression_code.specs.Code.Aggregates.{entry_code, item_code, list_code}
pub use Rattle.expression_code.specs.Code.Calls.{kept_size, operand_code, operands_code}
pub use Rattle.expression_code.specs.Code.Folds.{macro_code, map_where_code, map_where_turn}
pub use Rattle.expression_code.specs.Code.KeptLists.{clear, clear_code}
pub use Rattle.expression_code.specs.Code.Leaves.{leaf_code}
pub use Rattle.expression_code.specs.Code.Logic.{absorbing_code, and_code, false_ref, not_tail, or_code, ternary_code, true_ref}
pub use Rattle.expression_code.specs.Code.Names.{name_leaf}
pub use Rattle.expression_code.specs.Code.Selection.{field_tail, has_tail, index_tail, size_tail, string_tail, test_tail}
pub use Rattle.expression_code.specs.Contexts.{Context, Evaluates}
pub use Rattle.expression_code.specs.Engine.{RunContext}
pub use Rattle.expression_code.specs.Gives.Aggregates.{EntriesGive, ItemsGive}
pub use Rattle.expression_code.specs.Gives.Logic.{AbsorbingGives}
pub use Rattle.expression_code.specs.Gives.Folds.{IsItem, each_spent, each_visits, items_spent, items_visits}
pub use Rattle.expression_code.specs.Gives.KeptLists.{keeping}
pub use Rattle.expression_code.specs.Gives.Paths.{kept_path_code}
pub use Rattle.expression_code.specs.Gives.Selection.{HasText, text_length}
pub use Rattle.expression_code.specs.Helpers.{joined_length}
pub use Rattle.expression_code.specs.Instructions.{ja, store}
pub use Rattle.expression_code.specs.Limits.{call_reach, jump_limit, fold_limit, frame_words, memo_limit, node_limit, part_charge_per_unit, part_slots_per_node, part_steps_per_visit, branch_limit, slot_reach, turn_slot_limit, variable_depth_limit, word_limit}
pub use Rattle.expression_code.specs.Loops.{fold_code, loop_code, range_tail, with_item}
pub use Rattle.expression_code.specs.Operators.{AreApart, Combines, Converts, IsLeafIn, IsLeafOf}
pub use Rattle.expression_code.specs.Paths.{FrameUse, RootField, list_value, list_word, literal_values, nothing_kept, with_lists}
pub use Rattle.expression_code.specs.Paths.{with_name, with_path}
pub use Rattle.expression_code.specs.Pieces.{AreInsns, size, slots}
pub use Rattle.expression_code.specs.Scopes.{IsScope, Variable, place_named, scope_setting}
pub use Rattle.expression_code.specs.declared.simple_operand.SimpleOperand.{SimpleOperand}
pub use Rattle.expression_code.specs.declared.simple_operand.SimpleOperand.TheVariants.{Word}
unfoldable pub use Rattle.expression_code.specs.Code.Arithmetic.{negation_tail, product_tail}
unfoldable pub use Rattle.expression_code.specs.Code.Folds.{exists_one_turn, filter_turn}
unfoldable pub use Rattle.expression_code.specs.Code.Names.{root_reference}
unfoldable pub use Rattle.guest_memory.specs.Access.{constants_of}
unfoldable pub use Rattle.guest_memory.specs.Memory.{start_memory}
pub use Rattle.helper_table.specs.Calls.{bytes_at}
pub use Rattle.insn_codec.specs.Spelling.{slot_count}
pub use Rattle.insn_codec.specs.declared.insn.Insn.{Insn}
pub use Rattle.insn_codec.specs.declared.register.Register.{Register}
pub use Rattle.insn_codec.specs.declared.register.Register.TheVariants.{R0, R1, R2, R6, R7}
pub use Rattle.loader.specs.Contents.{Image}
pub use Rattle.loader.specs.Limits.{constants_limit}
pub use Rattle.value_store.specs.Equality.{int_equal, truth_equal}
pub use Rattle.value_store.specs.Size.{items_size, result_size, size_of}
pub use Rattle.value_store.specs.Value.{Items, Value, ValueOrError, boolean, int, item, list_of, no_items, null, text}
pub use Rattle.value_store.specs.Value.{value}
pub use Rattle.tree_code.specs.Code.Expressions.{binary_code, field_leaf, function_code, kept_or, leaf_of, left_size}
pub use Rattle.tree_code.specs.Code.Expressions.{method_function_code, no_code, routine_named, test_code, unary_code}
pub use Rattle.tree_code.specs.Code.Expressions.{variable_code}
pub use Rattle.tree_code.specs.Code.KeptLists.{are_literals, is_literal, kept_lists, kept_or_made, kept_place, limit_with_path, list_front, list_limit}
pub use Rattle.tree_code.specs.Code.KeptLists.{same_item, same_items, same_literal}
unfoldable pub use Rattle.tree_code.specs.Code.KeptLists.{with_lists_of, with_lists_of_each, with_lists_of_entries}
pub use Rattle.tree_code.specs.Code.Literals.{address_of, literal_code, literal_leaf}
pub use Rattle.tree_code.specs.Code.Whole.{code_keeping, code_with, front_of, keeping_code, passed, path_or, plain_code}
pub use Rattle.tree_code.specs.Code.Whole.{shorter}
pub use Rattle.tree_code.specs.Computes.{Computes, ComputesPart, Ready, TextsStand, environment_in, names, nestings}
pub use Rattle.tree_code.specs.Computes.{routines, scope_context, variable_of}
pub use Rattle.tree_code.specs.Constants.{joined, place_of, with_text, with_texts}
pub use Rattle.tree_code.specs.Cost.{Cost, IsDeep, call_cost, each_item, kept, kept_by, literal_cost}
pub use Rattle.tree_code.specs.Cost.{macro_cost, map_cost, name_or_text, node, nothing, one_visit, selection_cost}
pub use Rattle.tree_code.specs.Cost.{spent_by, ◌and◌}
pub use Rattle.tree_code.specs.FrameWords.{lists_view, path_view, words_of, words_step}
pub use Rattle.tree_code.specs.HasLiterals.{EntriesHaveLiterals, HasLiterals, HaveLiterals}
pub use Rattle.tree_code.specs.Laws.{CodeGives, RoutineGives, RoutineIsPassed, TextsStay, TypedIsAccepted}
pub use Rattle.tree_code.specs.Layer.{AreShallow, AreTaken, ExpressionGives, FramesAreEnough}
pub use Rattle.tree_code.specs.Layer.{HasConstants, IsEmittable, VariableIsTaken, VariableJoins}
pub use Rattle.tree_code.specs.NameTable.{routines_of, routines_within, texts_within}
pub use Rattle.tree_code.specs.declared.frame_words.FrameWords.{FrameWords}
pub use Rattle.tree_code.specs.declared.frame_words.FrameWords.TheFolds.{fold-roll-FrameWords}
pub use Rattle.tree_code.specs.declared.frame_words.FrameWords.TheVariants.{rolls-Keeping, rolls-Outside, rolls-Within}
unfoldable pub use Rattle.tree_code.specs.Accepted.{AreAccepted, AreEntriesAccepted, IsAccepted}
unfoldable pub use Rattle.tree_code.specs.Code.Expressions.{binary_tail, code_of, entries_code, items_code, texts_of}
unfoldable pub use Rattle.tree_code.specs.Code.Expressions.{texts_of_each, texts_of_entries}
unfoldable pub use Rattle.tree_code.specs.Code.Whole.{first_path, whole_code}
unfoldable pub use Rattle.tree_code.specs.Cost.{cost, costs, entry_costs, operand_cost}
