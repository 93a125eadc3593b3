-- The names of the library, of the crates below and of the definitions that these proofs use. Declares nothing.
pub use Rattle.std.proofs.Common.{All, Bool, Equal, FitsSigned, Greater, IfSome, Less, List, None, Ok, Option}
pub use Rattle.std.proofs.Common.{Ordering, Result, Some, ℕ, ℤ, [], ap, append-nil, append_assoc, ap₂, arith}
pub use Rattle.std.proofs.Common.{bytes_eq, codes, drop, false, fold, if◌then◌else◌, inl, inr, int_div, int_rem}
pub use Rattle.std.proofs.Common.{is_some, leb-false, leb-true, length, length-append, length-drop, lit<, max, mod-lt}
pub use Rattle.std.proofs.Common.{mul-div_cancel, nat_cmp, nat_eq, nat_le, neg_ℤ, negsuc, not, option_and_then}
pub use Rattle.std.proofs.Common.{option_map, pos, refl, replicate, rules, slice_get, subst, suc, suc-mul, sym, take}
pub use Rattle.std.proofs.Common.{true, zero, zero-add, ◌%◌, ◌*ℤ◌, ◌*◌, ◌++◌, ◌+ℤ◌, ◌+◌, ◌-ℤ◌, ◌-◌, ◌/◌, ◌<◌, ◌^◌}
pub use Rattle.std.proofs.Common.{◌||◌, ◌∙◌, ◌∷◌, ◌≡◌, ◌≤◌, ◌⊎◌}
pub use Rattle.std.proofs.Math.Nat.{suc-add}
pub use Rattle.std.proofs.Math.Seq.{drop-append_seam, take-append_seam}
pub use Rattle.std.proofs.lemmas.Bool.{cases_eq, cases_lt, eq-eqb, eqb-true, le-leb, lt-ltb, ne_eqb}
pub use Rattle.std.proofs.lemmas.Bool.Decides.{nat_tests}
pub use Rattle.std.proofs.lemmas.Cmp.{nat_list_cmp_total}
pub use Rattle.std.proofs.lemmas.Int.{int_wrap-add_same, int_wrap_fits, ints, quot-rem, rem_below, to_z-of_z}
pub use Rattle.std.proofs.lemmas.Int.{wrapping_mul-bits}
pub use Rattle.std.proofs.lemmas.List.{drop-drop, length-map, map-append}
pub use Rattle.std.proofs.lemmas.List.Elements.{All-drop, All-head, All-replicate, All-tail, All-take}
pub use Rattle.std.proofs.lemmas.Option.{slice_get_within}
pub use Rattle.std.proofs.lemmas.Simd.{map-map}
pub use Rattle.std.specs.Cmp.Lexicographic.{slice_cmp}
pub use Rattle.std.specs.Fmt.{signed_decimal}
pub use Rattle.std.specs.Int.{cast_signed, cast_unsigned, w32, w64}
pub use Rattle.std.specs.List.{AllByRecursion}
pub use Rattle.std.specs.Ordering.{ordering_reverse}
unfoldable pub use Rattle.std.specs.Int.{int_wrap}
unfoldable pub use Rattle.std.specs.List.Sorted.{IsStrictlySortedBy}
unfoldable pub use Rattle.std.specs.Str.{is_utf8}
pub use Rattle.bpf_machine.proofs.States.{step_is_row}
pub use Rattle.bpf_machine.specs.Access.{loaded, stored}
pub use Rattle.bpf_machine.specs.Decoding.{DecodesSpelling, fetched}
pub use Rattle.bpf_machine.specs.Jumps.{newest, returned}
pub use Rattle.bpf_machine.specs.Laws.{state_after-add, state_after-more, state_after-next, state_after-zero}
pub use Rattle.bpf_machine.specs.Laws.{stays_stopped}
pub use Rattle.bpf_machine.specs.Limits.{frame_length, record_limit}
pub use Rattle.bpf_machine.specs.Operands.{is_frame_pointer, jumped, operand_word, stopped_by, with_register}
pub use Rattle.bpf_machine.specs.State.{State}
pub use Rattle.bpf_machine.specs.Step.{executed, is_running}
pub use Rattle.bpf_machine.specs.Words.{alu_result, compares, negated}
pub use Rattle.bpf_machine.specs.declared.frame.Frame.{Frame}
pub use Rattle.bpf_machine.specs.declared.status.Status.TheVariants.{Exited, Fault}
unfoldable pub use Rattle.bpf_machine.specs.Access.{load_row, load_wide_row, store_row}
unfoldable pub use Rattle.bpf_machine.specs.Arithmetic.{alu_row, neg_row}
unfoldable pub use Rattle.bpf_machine.specs.Decoding.{insn_at}
unfoldable pub use Rattle.bpf_machine.specs.HelperCalls.{call_row}
unfoldable pub use Rattle.bpf_machine.specs.Jumps.{branch_row, call_local_row, exit_row, jump_row}
unfoldable pub use Rattle.bpf_machine.specs.State.{null_values, start_state}
unfoldable pub use Rattle.bpf_machine.specs.Step.{next_state}
unfoldable pub use Rattle.bpf_machine.specs.Trace.{state_after}
pub use Rattle.bpf_word.proofs.Casts.{difference_is, signed_is, word_is}
pub use Rattle.bpf_word.proofs.Overflow.{falls, falls_over, rises, rises_over}
pub use Rattle.bpf_word.specs.Overflow.{IsSigned}
unfoldable pub use Rattle.bpf_word.specs.Arithmetic.{alu64_of, operated}
unfoldable pub use Rattle.bpf_word.specs.Comparisons.{holds_of}
unfoldable pub use Rattle.bpf_word.specs.Signs.{signed_of, word_of}
pub use Rattle.cel_macros.specs.Arithmetic.{difference_of, fits, int_or_error, int_part, is_zero, on_ints}
pub use Rattle.cel_macros.specs.Arithmetic.{product_of, quotient, quotient_of, remainder, remainder_of}
pub use Rattle.cel_macros.specs.Arithmetic.{sum_of}
pub use Rattle.cel_macros.specs.Comparison.{equal_of, less_of, member_of, truth_or_error}
pub use Rattle.cel_macros.specs.CoreTree.{Cores}
pub use Rattle.cel_macros.specs.Environment.{Environment, Roots, lookup, root_bindings, value_or_error}
pub use Rattle.cel_macros.specs.FoldMeaning.{end_of, folded, is_error, map_step, one_more, pushed, start_of, step_of}
pub use Rattle.cel_macros.specs.FoldMeaning.{when_true}
pub use Rattle.cel_macros.specs.Functions.{size_of, string_of, text_test_of}
pub use Rattle.cel_macros.specs.declared.text_test.TextTest.{TextTest}
pub use Rattle.cel_macros.specs.declared.text_test.TextTest.TheVariants.{Contains, EndsWith, StartsWith}
pub use Rattle.cel_macros.specs.Literals.{entries_in, map_literal, map_or_error, values_in, with_entry}
pub use Rattle.cel_macros.specs.Logic.{No, Other, Truth, Yes, and_of, chosen, conjunction, disjunction, not_of}
pub use Rattle.cel_macros.specs.Logic.{of_truth, or_of, ternary_of, truth}
pub use Rattle.cel_macros.specs.Macros.{is_no, is_yes, range_of}
pub use Rattle.cel_macros.specs.Selection.{field_of, has_of, index_of}
pub use Rattle.cel_macros.specs.declared.macros.Macro.{Macro}
pub use Rattle.cel_macros.specs.declared.macros.Macro.TheVariants.{Exists, ExistsOne, Filter, Map}
unfoldable pub use Rattle.cel_macros.specs.Environment.{name_value, variable_value}
pub use Rattle.guest_memory.proofs.RegionWords.{put_word-other, put_word-same, read_word, with_word, write_word}
pub use Rattle.guest_memory.proofs.Start.{start_laws}
pub use Rattle.guest_memory.specs.Memory.{Constants, IsMemory, Memory, Region, Scratch, Stack, Verdict, base_of}
pub use Rattle.guest_memory.specs.Memory.{bytes_in, with_bytes}
pub use Rattle.guest_memory.specs.RegionWords.{HasWord}
pub use Rattle.guest_memory.specs.Word.{part}
pub use Rattle.guest_memory.specs.declared.fault.Fault.TheVariants.{F8}
unfoldable pub use Rattle.guest_memory.specs.Access.{read_of, write_of}
unfoldable pub use Rattle.guest_memory.specs.Memory.{start_memory}
unfoldable pub use Rattle.guest_memory.specs.RegionWords.{put_word, word_in}
pub use Rattle.helper_table.proofs.Depths.{Grows}
pub use Rattle.helper_table.proofs.Entering.{enters_by}
pub use Rattle.helper_table.proofs.Placing.{placed_extends, placed_is_named, same}
pub use Rattle.helper_table.proofs.Tables.{tables_are_kept}
pub use Rattle.helper_table.specs.Building.{depth_limit, grown, is_key, sequence}
pub use Rattle.helper_table.specs.Calls.{on_lent, on_operand, on_range, on_value, on_values, outcome_of}
pub use Rattle.helper_table.specs.Comparisons.{on_texts}
pub use Rattle.helper_table.specs.Conversions.{kind_number}
pub use Rattle.helper_table.specs.Laws.{ExtendsValues, Names}
pub use Rattle.helper_table.specs.Lookups.{count_word, item_or_key}
pub use Rattle.helper_table.specs.Operands.{count_part, text_part}
pub use Rattle.helper_table.specs.Outcome.{HelperAnswer, Leaves, Named, RowOutcome, Plain, Refused, answer_among}
pub use Rattle.helper_table.specs.Outcome.{charged, found, named, truth_word}
pub use Rattle.helper_table.specs.Tables.{IsResultBounded, IsTable}
unfoldable pub use Rattle.helper_table.specs.Building.{join_row, list_new_row, map_new_row, push_row, put_row}
unfoldable pub use Rattle.helper_table.specs.Calls.{row_of}
unfoldable pub use Rattle.helper_table.specs.Comparisons.{contains_row, ends_row, equal_row, less_row, member_row}
unfoldable pub use Rattle.helper_table.specs.Comparisons.{starts_row}
unfoldable pub use Rattle.helper_table.specs.Conversions.{int_new_row, int_of_row, kind_row, not_row, text_const_row}
unfoldable pub use Rattle.helper_table.specs.Conversions.{text_of_int_row}
unfoldable pub use Rattle.helper_table.specs.Lookups.{count_row, field_row, has_row, index_row, item_row, size_row}
unfoldable pub use Rattle.helper_table.specs.Numbers.{of_number}
pub use Rattle.insn_codec.specs.Codes.{register_number}
pub use Rattle.insn_codec.specs.Spelling.{slot_count, spelling}
pub use Rattle.insn_codec.specs.declared.alu_op.AluOp.{AluOp}
pub use Rattle.insn_codec.specs.declared.alu_op.AluOp.TheVariants.{Add, Mov, Mul, Sdiv, Smod, Sub}
pub use Rattle.insn_codec.specs.declared.comparison.Comparison.{Comparison}
pub use Rattle.insn_codec.specs.declared.comparison.Comparison.TheVariants.{Eq, Ne, Sge, Sgt, Sle, Slt}
pub use Rattle.insn_codec.specs.declared.insn.Insn.{Insn}
pub use Rattle.insn_codec.specs.declared.insn.Insn.TheVariants.{Alu, Branch, Call, CallLocal, Exit, Jump, Load}
pub use Rattle.insn_codec.specs.declared.insn.Insn.TheVariants.{LoadWide, Neg, Store, StoreImm}
pub use Rattle.insn_codec.specs.declared.operand.Operand.{Operand}
pub use Rattle.insn_codec.specs.declared.operand.Operand.TheVariants.{Imm, Reg}
pub use Rattle.insn_codec.specs.declared.register.Register.{Register}
pub use Rattle.insn_codec.specs.declared.register.Register.TheVariants.{R0, R1, R10, R2, R3, R6, R7}
pub use Rattle.insn_codec.specs.declared.size.Size.TheVariants.{Dw}
pub use Rattle.insn_codec.specs.declared.width.Width.{Width}
pub use Rattle.insn_codec.specs.declared.width.Width.TheVariants.{W64}
unfoldable pub use Rattle.insn_codec.specs.Candidate.{arithmetic_at, branch_at, candidate_at, jump_at, memory_at}
unfoldable pub use Rattle.insn_codec.specs.Candidate.{wide_at}
unfoldable pub use Rattle.insn_codec.specs.Spelled.{spelled}
pub use Rattle.loader.specs.Contents.{Image}
pub use Rattle.value_store.proofs.Keys.{inserted_in_order, inserted_once}
pub use Rattle.value_store.specs.Calls.{joined, value_at}
pub use Rattle.value_store.specs.Keys.{Ascend}
pub use Rattle.value_store.specs.Lookup.{inserted}
pub use Rattle.value_store.specs.Placing.{AreCanonical, IsStore, charge_limit}
pub use Rattle.value_store.specs.Seen.{outcome_view}
pub use Rattle.value_store.specs.Size.{depth_of, items_depth, result_depth}
pub use Rattle.value_store.specs.Value.{Entries, Items, Value, ValueOrError, boolean, entry, error, int, item}
pub use Rattle.value_store.specs.Value.{items_join, items_of, items_push, keys_of, list, map, no_entries, no_items}
pub use Rattle.value_store.specs.Value.{null, text, value}
pub use Rattle.expression_code.specs.CpuState.{CpuState, at, operand_in, put_register, set_register}
pub use Rattle.expression_code.specs.Calls.{HelperReturns, HelperPlaces, Refuses, Tells, answered, arguments_in, entered}
pub use Rattle.expression_code.specs.Calls.{frame_at, resumed}
pub use Rattle.expression_code.specs.Code.Aggregates.{entry_code, entry_tail, item_code, list_code, list_head, map_code}
pub use Rattle.expression_code.specs.Code.Aggregates.{map_head, push_tail}
pub use Rattle.expression_code.specs.Code.Arithmetic.{checked_tail, difference_code, difference_tail, divided_code}
pub use Rattle.expression_code.specs.Code.Arithmetic.{divided_tail, int_operands, least_word, product_code, sum_code}
pub use Rattle.expression_code.specs.Code.Arithmetic.{sum_tail}
pub use Rattle.expression_code.specs.Code.Calls.{kept_code, kept_size, operand_code, operands_code}
pub use Rattle.expression_code.specs.Code.Comparison.{equal_tail, less_tail, member_tail, not_less_tail, opposite_of}
pub use Rattle.expression_code.specs.Code.Comparison.{unequal_tail}
pub use Rattle.expression_code.specs.Code.Folds.{absorbing_turn, exists_one_end, first_empty, first_false, first_true}
pub use Rattle.expression_code.specs.Code.Folds.{macro_code, map_turn, map_where_code, map_where_turn}
pub use Rattle.expression_code.specs.Code.KeptLists.{clear, clear_code, kept_list_code}
pub use Rattle.expression_code.specs.Code.Leaves.{leaf_code, leaf_insn}
pub use Rattle.expression_code.specs.Code.Literals.{int_code, null_leaf, text_code, truth_leaf}
pub use Rattle.expression_code.specs.Code.Logic.{absorbing_code, absorbing_tail, false_ref, not_tail, ternary_code, true_ref}
pub use Rattle.expression_code.specs.Code.Names.{held_leaf, name_code, name_leaf, reference_or_error, root_references}
pub use Rattle.expression_code.specs.Code.Selection.{call_with_text, field_tail, has_tail, index_tail, size_tail}
pub use Rattle.expression_code.specs.Code.Selection.{string_tail, test_tail}
pub use Rattle.expression_code.specs.Contexts.{Context, IsWellFormedState, Evaluates, HasValues, HoldsLists, IsEmptyOr}
pub use Rattle.expression_code.specs.Contexts.{IsHeld, IsMemo}
pub use Rattle.expression_code.specs.Contexts.{Preserves, LeavesValue, variable_count}
pub use Rattle.expression_code.specs.Engine.{Arrived, RunsTo, RunsToExit, RunEnds, ExitsOrRunsOut, IsSpent, LeavesByExit}
pub use Rattle.expression_code.specs.Engine.{OutOfBudget, OwnBudgets, RunsToWith, RunContext, Faulted, charge_to}
pub use Rattle.expression_code.specs.Engine.{steps_to}
pub use Rattle.expression_code.specs.FirstUses.{FirstUse, StayFilled, first_uses, is_first_use, is_open, pending}
pub use Rattle.expression_code.specs.Gives.Aggregates.{Builds, EntriesGive, ItemsGive, ListGives, Made, MadeInR0}
pub use Rattle.expression_code.specs.Gives.Aggregates.{MapGives, MayHold, with_pair}
pub use Rattle.expression_code.specs.Gives.Arithmetic.{AdditionsGive, NegationGives, ProductsGive}
pub use Rattle.expression_code.specs.Gives.Comparison.{ComparisonGives, TailGives}
pub use Rattle.expression_code.specs.Gives.Leaves.{LeavesGive, LeavesName}
pub use Rattle.expression_code.specs.Gives.Logic.{AbsorbingGives, LogicGives}
pub use Rattle.expression_code.specs.Gives.Folds.{IsItem, MacroGives, MapWhereGives, charge_budget, each_spent}
pub use Rattle.expression_code.specs.Gives.Folds.{each_visits, holds_too_deep, is_too_deep, items_spent, items_visits}
pub use Rattle.expression_code.specs.Gives.Folds.{step_budget}
pub use Rattle.expression_code.specs.Gives.KeptLists.{KeptListsGive, keeping}
pub use Rattle.expression_code.specs.Gives.Paths.{PathsGive, kept_path_code, outside, path_in}
pub use Rattle.expression_code.specs.Gives.Selection.{HasText, KeyedGives, SelectionGives, text_length}
pub use Rattle.expression_code.specs.Helpers.{HelpersAnswer, Holding, KeyHelper, Lends, UnaryHelper, join_of, joined_length}
pub use Rattle.expression_code.specs.Helpers.{put_of}
pub use Rattle.expression_code.specs.Instructions.{mov_reg, put_length, ja}
pub use Rattle.expression_code.specs.Limits.{fold_limit, frame_words, memo_limit, part_charge_per_unit, part_steps_per_visit, branch_limit, word_limit}
pub use Rattle.expression_code.specs.Loops.{AtTurn, FoldGives, TurnGives, Turned, fold_charge, fold_code, fold_of}
pub use Rattle.expression_code.specs.Loops.{fold_steps, loop_charge, loop_code, loop_head, loop_steps, loop_tail}
pub use Rattle.expression_code.specs.Loops.{range_tail, with_item}
pub use Rattle.expression_code.specs.MacroRows.{MacroRowsStand}
pub use Rattle.expression_code.specs.Operators.{AreApart, CallsGive, Combines, CombinesThen, Converts, ConvertsThen}
pub use Rattle.expression_code.specs.Operators.{IsLeafIn, IsLeafOf, OneGives, TwoGives}
pub use Rattle.expression_code.specs.Paths.{FrameUse, RootField, list_value, list_word, nothing_kept, with_lists, with_path}
pub use Rattle.expression_code.specs.Pieces.{AreInsns, SpelledStands, IsCodeAt, insn_slots, size, slots, spellings}
pub use Rattle.expression_code.specs.Programs.{ProgramExits, start_body, total}
pub use Rattle.expression_code.specs.Rows.{RunEndRowsHold}
pub use Rattle.expression_code.specs.Scopes.{HasRoutine, IsScope, LaterGives, NoScope, RoutineReturns, ScopeBegins}
pub use Rattle.expression_code.specs.Scopes.{ScopeGives, ScopeGrows, Variable, WiderGives, bindings, first_charges}
pub use Rattle.expression_code.specs.Scopes.{first_steps, first_use, place_named, scope_setting}
pub use Rattle.expression_code.specs.Variables.{VariableGives, memo_tail, routine_context, use_code, used_context}
pub use Rattle.expression_code.specs.Variables.{with_variables}
pub use Rattle.expression_code.specs.Words.{Framed, memo_address, memo_at, set_memo, set_verdict, set_word, stack_index}
pub use Rattle.expression_code.specs.Words.{verdict_address, word_at, word_offset}
pub use Rattle.expression_code.specs.declared.simple_operand.SimpleOperand.{SimpleOperand}
pub use Rattle.expression_code.specs.declared.simple_operand.SimpleOperand.TheVariants.{Reference, Word}
unfoldable pub use Rattle.expression_code.specs.Code.Arithmetic.{negation_tail, product_tail}
unfoldable pub use Rattle.expression_code.specs.Code.Folds.{exists_one_turn, filter_turn}
unfoldable pub use Rattle.expression_code.specs.Code.Names.{root_reference}
unfoldable pub use Rattle.expression_code.specs.FirstUses.{cost_where}
