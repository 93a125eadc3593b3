-- The names that these proofs use, from the library, the crates below and these definitions. It declares nothing.
pub use Rattle.std.proofs.Common.{Bool, FitsSigned, IfSome, List, None, Ok, Option, Result, Some, ℕ, ℤ, [], add-zero}
pub use Rattle.std.proofs.Common.{ap, append-nil, append_assoc, arith, bytes_eq, cond, drop, false, filter, fold}
pub use Rattle.std.proofs.Common.{get_or, if◌then◌else◌, int_rem, is_some, length, map, nat_eq, negsuc, option_map}
pub use Rattle.std.proofs.Common.{pos, refl, rules, slice_get, string_bytes, suc, sym, take, true, zero, ◌%◌, ◌++◌}
pub use Rattle.std.proofs.Common.{◌+ℤ◌, ◌+◌, ◌/◌, ◌<◌, ◌∙◌, ◌∷◌, ◌≡◌, ◌≤◌}
pub use Rattle.std.proofs.lemmas.Result.{IfOk-weaker}
pub use Rattle.std.proofs.lemmas.Str.{IsUtf8-append, IsUtf8-from_ascii}
pub use Rattle.std.proofs.lemmas.Str.Ascii.{IsAscii-cons, IsAscii-nil}
pub use Rattle.std.specs.Fmt.{decimal, digit_glyph, digits_onto, signed_decimal}
pub use Rattle.std.specs.Int.{w64}
pub use Rattle.std.specs.List.{AllByRecursion, list_all, list_any}
pub use Rattle.std.specs.Prelude.{⊤}
pub use Rattle.std.specs.Str.{IsAscii, IsUtf8}
pub use Rattle.std.specs.declared.alloc.AllocError.{AllocError}
pub use Rattle.std.specs.declared.alloc.Global.{Global}
pub use Rattle.std.specs.declared.boxed.Box.{Box}
pub use Rattle.std.specs.declared.string.String.{String}
pub use Rattle.std.specs.declared.vec.Vec.{Vec}
unfoldable pub use Rattle.std.specs.Fmt.{digits}
unfoldable pub use Rattle.std.specs.List.Sorted.{IsStrictlySortedBy}
pub use Rattle.cel_reader.specs.Tree.{TreeEntries, Tree, Trees, entries, more_entries, more_trees, no_entries, no_trees}
pub use Rattle.cel_reader.specs.Tree.{trees, view, view_step}
pub use Rattle.cel_reader.specs.WellFormed.{AreWellFormed, HasWellFormedEntries, IsWellFormed}
pub use Rattle.cel_reader.specs.declared.expr.Expr.{Expr}
pub use Rattle.cel_reader.specs.declared.expr.Expr.TheFolds.{fold-roll-Expr}
pub use Rattle.cel_reader.specs.declared.expr.Expr.TheVariants.{rolls-Call, rolls-List, rolls-Map, rolls-Method}
pub use Rattle.cel_reader.specs.declared.operator.BinaryOperator.{BinaryOperator}
pub use Rattle.cel_reader.specs.declared.operator.UnaryOperator.{UnaryOperator}
pub use Rattle.value_store.proofs.Keys.{inserted_in_order}
pub use Rattle.value_store.specs.Keys.{Ascend}
pub use Rattle.value_store.specs.Lookup.{find, inserted}
pub use Rattle.value_store.specs.Value.{Items, Value, ValueOrError, boolean, entry, error, int, item, items_join}
pub use Rattle.value_store.specs.Value.{items_of, items_push, keys_of, list, list_of, no_items, text, value}
pub use Rattle.cel_macros.specs.Arithmetic.{fits, int_or_error}
pub use Rattle.cel_macros.specs.Arithmetic.{int_part, is_zero, quotient, remainder, sum_of}
pub use Rattle.cel_macros.specs.Callee.{Callee, OfFunction, OfTest, Unknown, callee_name, function_in}
pub use Rattle.cel_macros.specs.Callee.{test_in}
pub use Rattle.cel_macros.specs.Comparison.{on_values}
pub use Rattle.cel_macros.specs.CoreTree.{Core, call, call_or_has, method_or_fold, method_or_fold_map, name}
pub use Rattle.cel_macros.specs.CoreTree.{selection}
pub use Rattle.cel_macros.specs.CoreView.{core_entries, core_view, cores}
pub use Rattle.cel_macros.specs.Environment.{Environment, bind, lookup, value_or_error}
pub use Rattle.cel_macros.specs.Expanding.{AreCallArguments, IsPair, IsTriple, call_of, call_with, core_name}
pub use Rattle.cel_macros.specs.Expanding.{core_pair, core_selection, expanded_pair, has_or_call}
pub use Rattle.cel_macros.specs.FoldMeaning.{end_of, folded, folded_map, map_step, push_parts, start_of, step_of}
pub use Rattle.cel_macros.specs.Functions.{method_of, size_of, string_of}
pub use Rattle.cel_macros.specs.declared.function.Function.{Function}
pub use Rattle.cel_macros.specs.declared.function.Function.TheVariants.{Size}
pub use Rattle.cel_macros.specs.declared.text_test.TextTest.{TextTest}
pub use Rattle.cel_macros.specs.Functions.{text_test_of}
pub use Rattle.cel_macros.specs.Literals.{entries_in, list_literal, list_or_error, map_literal, map_or_error}
pub use Rattle.cel_macros.specs.Literals.{text_part, values_in, with_value}
pub use Rattle.cel_macros.specs.Logic.{No, Other, Truth, Yes, chosen, conjunction, disjunction, of_truth, ternary_of}
pub use Rattle.cel_macros.specs.Logic.{truth}
pub use Rattle.cel_macros.specs.MacroFault.{ArgumentCount, MacroFault, fold_fault, has_fault, name_fault}
pub use Rattle.cel_macros.specs.MacroFault.{refusal, three_fault}
pub use Rattle.cel_macros.specs.Macros.{all_of, exists_of, exists_one_of, field_name, is_no}
pub use Rattle.cel_macros.specs.Macros.{is_other, is_yes, macro_name, macro_of, map_of, map_over_range}
pub use Rattle.cel_macros.specs.Macros.{name_of, over_range, range_of, variables_name, where_true}
pub use Rattle.cel_macros.specs.Meaning.{binary_of, called, selected, unary_of}
pub use Rattle.cel_macros.specs.Selection.{field_of, index_of}
pub use Rattle.cel_macros.specs.Values.{AreValues, AtEntrySizes, AtSize, AtSizes, AreEntryValues, IntsStay, IsValue}
pub use Rattle.cel_macros.specs.Values.{IsValueOrError, NamesValues, TextsAndKeysStay}
pub use Rattle.cel_macros.specs.declared.core_tree.Core.{Core as CodeCore}
pub use Rattle.cel_macros.specs.declared.macro_error.MacroError.{MacroError}
pub use Rattle.cel_macros.specs.declared.macros.Macro.{Macro}
pub use Rattle.cel_macros.specs.declared.macros.Macro.TheVariants.{All, Exists, ExistsOne, Filter, Map}
unfoldable pub use Rattle.cel_macros.specs.Callee.{callee_named}
unfoldable pub use Rattle.cel_macros.specs.CoreTree.{expanded, expanded_entries, expanded_operand, expanded_trees}
unfoldable pub use Rattle.cel_macros.specs.CoreTree.{plain_entries, plain_tree, plain_trees}
unfoldable pub use Rattle.cel_macros.specs.Environment.{is_root, name_value, variable_value}
unfoldable pub use Rattle.cel_macros.specs.FoldMeaning.{fold_entries, fold_meaning, fold_meanings}
unfoldable pub use Rattle.cel_macros.specs.Functions.{function_named, test_named}
unfoldable pub use Rattle.cel_macros.specs.MacroFault.{entries_fault, macro_fault, trees_fault}
unfoldable pub use Rattle.cel_macros.specs.Macros.{is_has, is_map, is_variables, macro_named}
unfoldable pub use Rattle.cel_macros.specs.Meaning.{entry_meanings, meaning, meanings, operand_meaning}
