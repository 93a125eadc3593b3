-- The names of the library, of the crates below and of the definitions that these proofs use. Declares nothing.
pub use Rattle.std.proofs.Common.{All, Bool, Err, IfOk, IsErrOf, List, None, Ok, OnOk, Option, Result}
pub use Rattle.std.proofs.Common.{Some, nat_le, ℕ, ℤ, [], ap, append-nil, append_assoc, arith, count_by, drop}
pub use Rattle.std.proofs.Common.{false, fold, get_or, if◌then◌else◌, length, length-append, map, not}
pub use Rattle.std.proofs.Common.{option_map, pos, refl, slice_get, slice_index_or}
pub use Rattle.std.proofs.Common.{slice_set, subst, suc, sym, take, true, true≢false, zero}
pub use Rattle.std.proofs.Common.{◌%◌, ◌*◌, ◌++◌, ◌+◌, ◌-◌, ◌<◌, ◌^◌, ◌||◌, ◌∙◌, ◌∷◌, ◌≡◌, ◌≤◌}
pub use Rattle.std.proofs.Math.Seq.{take-append_seam}
pub use Rattle.std.proofs.lemmas.Bool.{and_from, and_parts, cases_eq, cases_lt, le-leb, le-ltb, leb-true, lt-ltb}
pub use Rattle.std.proofs.lemmas.Int.{ints}
pub use Rattle.std.proofs.lemmas.List.{drop_more, length-map, map-append}
pub use Rattle.std.proofs.lemmas.List.Sums.{count_by-le-length, fold-append, sum_by-append, sum_by-cons}
pub use Rattle.std.proofs.lemmas.Option.{slice_get-map, slice_get_read}
pub use Rattle.std.proofs.lemmas.Result.{on_ok_weaker}
pub use Rattle.std.specs.Int.{cast_unsigned, w64}
pub use Rattle.std.specs.List.{list_all, list_any, sum_by}
pub use Rattle.bpf_machine.specs.Access.{loaded, stored}
pub use Rattle.bpf_machine.specs.Decoding.{DecodesSpelling, fetched}
pub use Rattle.bpf_machine.specs.Laws.{stays_stopped}
pub use Rattle.bpf_machine.specs.Operands.{is_frame_pointer}
pub use Rattle.bpf_machine.specs.State.{State}
pub use Rattle.bpf_machine.specs.Words.{compares}
pub use Rattle.bpf_machine.specs.declared.frame.Frame.{Frame}
unfoldable pub use Rattle.bpf_machine.specs.Access.{load_row, store_row}
unfoldable pub use Rattle.bpf_machine.specs.State.{start_state}
unfoldable pub use Rattle.bpf_machine.specs.Trace.{state_after}
pub use Rattle.cel_macros.proofs.Expansion.{expansion_plain}
pub use Rattle.cel_macros.specs.CoreTree.{Core}
pub use Rattle.cel_macros.specs.CoreView.{core_view}
pub use Rattle.cel_macros.specs.Environment.{Environment, Roots}
pub use Rattle.cel_macros.specs.declared.core_tree.Core.{Core as CodeCore}
unfoldable pub use Rattle.cel_macros.specs.CoreTree.{expanded, plain_tree}
unfoldable pub use Rattle.cel_macros.specs.Meaning.{meaning}
pub use Rattle.cel_measures.specs.Measures.{depth}
pub use Rattle.cel_measures.specs.Saturated.{saturated}
unfoldable pub use Rattle.cel_measures.specs.Measures.{need, nodes}
pub use Rattle.cel_reader.specs.Tree.{Tree}
pub use Rattle.cel_types.specs.Declarations.{Declaration, declaration, declared, depths_of, scope_of}
unfoldable pub use Rattle.cel_types.specs.Typing.{typing}
pub use Rattle.codegen.proofs.Finished.{slot_spellings-append, slots_spelled}
pub use Rattle.codegen.specs.Added.{code_at, has_room, with_counted, with_expression}
pub use Rattle.codegen.specs.Emitted.{Emitted, HasTooManyTexts, IsTooLong, no_code, slot_spellings, with_insn_at}
pub use Rattle.codegen.specs.Emitted.{with_nodes, with_piece, without_code}
pub use Rattle.tree_code.proofs.CodeInsns.{AreLow, AreNear, near_named}
pub use Rattle.tree_code.proofs.Layer.{expression_gives, frames_are_enough, variable_is_taken, variable_joins}
pub use Rattle.tree_code.proofs.Whole.{whole_insns, whole_short}
pub use Rattle.tree_code.specs.Code.Whole.{passed}
pub use Rattle.tree_code.specs.Computes.{environment_in, variable_of}
pub use Rattle.tree_code.specs.Constants.{joined, with_text, with_texts}
pub use Rattle.tree_code.specs.Cost.{Cost, IsDeep, spent_by}
pub use Rattle.tree_code.specs.Layer.{AreShallow, HasConstants, IsEmittable}
pub use Rattle.tree_code.specs.NameTable.{routines_of}
unfoldable pub use Rattle.tree_code.specs.Code.Whole.{whole_code}
unfoldable pub use Rattle.tree_code.specs.Cost.{cost}
pub use Rattle.expression_code.proofs.Accesses.{has_verdict}
pub use Rattle.expression_code.proofs.Effects.{add_is, differs_no, differs_yes, does, equal_no, equal_yes, operand_is}
pub use Rattle.expression_code.proofs.Effects.{register_set}
pub use Rattle.expression_code.proofs.Exits.{comes_to_exit}
pub use Rattle.expression_code.proofs.Frames.{fits_registers, fits_verdict}
pub use Rattle.expression_code.proofs.HelperAnswers.{helpers}
pub use Rattle.expression_code.proofs.Insns.{insns_append, memo_insns}
pub use Rattle.expression_code.proofs.Later.{wider_gives}
pub use Rattle.expression_code.proofs.Listings.{alu, ask, begins, jump, load_wide, mov, no, yes}
pub use Rattle.expression_code.proofs.Operands.{fits_told}
pub use Rattle.expression_code.proofs.Pieces.{length-insn_slots, size-append, size-cons, slots-append}
pub use Rattle.expression_code.proofs.Pieces.{stands_back, stands_first, stands_front, stands_rest}
pub use Rattle.expression_code.proofs.Programs.{charges-most, halts_into, start_fits, start_is, steps-most}
pub use Rattle.expression_code.proofs.Programs.{word_in-zeros}
pub use Rattle.expression_code.proofs.Runs.{and_then, done, from_place, into, looser, one, to_place}
pub use Rattle.expression_code.proofs.Scopes.{no_scope}
pub use Rattle.expression_code.proofs.Spelled.{spelled_stands}
pub use Rattle.expression_code.proofs.Values.{names_error, small_reference, told}
pub use Rattle.expression_code.specs.CpuState.{CpuState, at, set_register}
pub use Rattle.expression_code.specs.Calls.{Tells, answered}
pub use Rattle.expression_code.specs.Contexts.{Context, IsWellFormedState, HasValues, LeavesValue}
pub use Rattle.expression_code.specs.Engine.{RunsTo, ExitsOrRunsOut, RunContext}
pub use Rattle.expression_code.specs.Instructions.{ja}
pub use Rattle.expression_code.specs.Limits.{charge_per_unit, code_limit, jump_limit, memo_limit, node_limit, part_slot_limit, part_slots_per_node, branch_limit, slot_reach, slots_per_node, steps_per_visit, variable_depth_limit, word_limit}
pub use Rattle.expression_code.specs.Pieces.{AreInsns, IsCodeAt, size, slots, spellings}
pub use Rattle.expression_code.specs.Programs.{start_body, total}
pub use Rattle.expression_code.specs.Scopes.{IsScope, Variable, bindings, first_charges, first_steps, scope_setting}
pub use Rattle.expression_code.specs.Variables.{memo_tail, routine_context}
pub use Rattle.expression_code.specs.Words.{Framed, set_verdict, verdict_address, verdict_at}
pub use Rattle.guest_memory.proofs.RegionWords.{put_word-other, put_word-same, read_word, write_word}
pub use Rattle.guest_memory.specs.Memory.{Constants, IsMemory, Memory, base_of}
pub use Rattle.guest_memory.specs.declared.fault.Fault.{Fault}
unfoldable pub use Rattle.guest_memory.specs.Memory.{start_memory}
unfoldable pub use Rattle.guest_memory.specs.RegionWords.{put_word, word_in}
pub use Rattle.helper_table.specs.Conversions.{kind_number}
pub use Rattle.helper_table.specs.Laws.{Names}
pub use Rattle.insn_codec.specs.Limits.{slot_limit}
pub use Rattle.insn_codec.specs.Spelling.{slot_count, spelling}
pub use Rattle.insn_codec.specs.declared.comparison.Comparison.TheVariants.{Eq, Ne}
pub use Rattle.insn_codec.specs.declared.insn.Insn.{Insn}
pub use Rattle.insn_codec.specs.declared.insn.Insn.TheVariants.{Exit, Load, Store, StoreImm}
pub use Rattle.insn_codec.specs.declared.operand.Operand.TheVariants.{Imm, Reg}
pub use Rattle.insn_codec.specs.declared.register.Register.{Register}
pub use Rattle.insn_codec.specs.declared.register.Register.TheVariants.{R0, R1, R10, R2, R6}
pub use Rattle.insn_codec.specs.declared.size.Size.TheVariants.{Dw}
pub use Rattle.insn_codec.specs.declared.width.Width.TheVariants.{W64}
pub use Rattle.loader.specs.Limits.{constants_limit}
pub use Rattle.value_store.specs.Calls.{text_at}
pub use Rattle.value_store.specs.Placing.{Contents, charge_limit}
pub use Rattle.value_store.specs.Seen.{outcome_view}
pub use Rattle.value_store.specs.Value.{ValueOrError, boolean, error, int, list, null, text, value}
pub use Rattle.policy_code.specs.Budget.{conditions_cost, message_cost, policy_spent, policy_work}
pub use Rattle.policy_code.specs.Budget.{validations_cost, runs_on, variables_cost}
pub use Rattle.policy_code.specs.Checked.{IsChecked, validation_expanded, validation_trees, variable_expanded}
pub use Rattle.policy_code.specs.Scopes.{depth_in, scope_after, type_or_any, with_variable}
pub use Rattle.policy_code.specs.Emission.{FitInOrder, MayFit, emitted, with_condition}
pub use Rattle.policy_code.specs.Emission.{with_conditions, with_decided, with_result, with_validation}
pub use Rattle.policy_code.specs.Emission.{with_validations, with_variables, with_way}
pub use Rattle.policy_code.specs.Evaluation.{condition_values, environment_with, validation_value, values_of, with_value}
pub use Rattle.verdicts.specs.Layout.{IsLayout, IsMessageWord, finding_word}
pub use Rattle.verdicts.specs.Layout.{first_message, first_result, message_in, outcome_word, truth_word}
pub use Rattle.policy_code.specs.Limits.{part_nodes, validation_nodes, validation_tree_texts, tree_texts, part_limit}
pub use Rattle.policy_code.proofs.PartTexts.{condition_texts, message_nodes, message_texts, validation_texts, variable_texts}
pub use Rattle.policy_code.specs.Program.{decided_code, decided_tail, error_way, if_true, leave_error, message_code}
pub use Rattle.policy_code.specs.Program.{result_code, routines_code, validation_code}
pub use Rattle.policy_code.specs.ProgramCode.{Laid, after_condition, after_conditions, after_variables}
pub use Rattle.policy_code.specs.ProgramCode.{before_message, condition_codes, laid_conditions, laid_routines}
pub use Rattle.policy_code.specs.ProgramCode.{message_codes, nothing_laid, texts_with, tree_code, validation_codes}
pub use Rattle.policy_code.specs.ProgramCode.{variable_code, variable_codes, with_message, with_routine, with_slots}
pub use Rattle.policy_code.specs.ProgramCode.{with_tree}
pub use Rattle.policy_code.specs.ProgramLaws.{LeavesVerdict, PolicyDecides, conditions_place, passes, program_charge}
pub use Rattle.policy_code.specs.ProgramLaws.{program_steps, validations_place}
pub use Rattle.policy_code.specs.ProgramParts.{ConditionsGive, MessageGives, Part, PartGives, ValidationPart}
pub use Rattle.policy_code.specs.ProgramParts.{ValidationsGive, codes_of, conditions_charge, conditions_steps}
pub use Rattle.policy_code.specs.ProgramParts.{decided_slots, found, message_charge, message_size, message_steps}
pub use Rattle.policy_code.specs.ProgramParts.{validation_charge, codes_of_validation, codes_of_validations, validation_size, validation_steps, values_of_validations}
pub use Rattle.policy_code.specs.ProgramParts.{validations_charge, validations_steps, values_given}
pub use Rattle.policy_code.specs.ProgramTrees.{AreConditions, AreValidations, AreVariables, Decides, HasProgram}
pub use Rattle.policy_code.specs.ProgramTrees.{IsEmittableMessage, ProgramDecides, ProgramIsCode, ProgramIsShort}
pub use Rattle.policy_code.specs.ProgramTrees.{ProgramStops}
pub use Rattle.policy_code.specs.Trees.{PolicyTree, ValidationTree, VariableTree}
pub use Rattle.verdicts.specs.Verdict.{Errs, Fails, Finding, Holds}
pub use Rattle.verdicts.specs.declared.outcome.Outcome.{Outcome}
pub use Rattle.verdicts.specs.declared.outcome.Outcome.TheVariants.{Admitted, Denied, Skipped}
pub use Rattle.verdicts.specs.Verdict.{CheckResult, Verdict, decided, decided_before, denies, finding_of}
pub use Rattle.verdicts.specs.Verdict.{is_denial, is_failed, is_held, judged_by, truth_of, undecided}
pub use Rattle.policy_code.specs.declared.checked.Checked.{Checked}
pub use Rattle.policy_code.specs.declared.checked_validation.CheckedValidation.{CheckedValidation}
pub use Rattle.policy_code.specs.declared.program_error.ProgramError.TheVariants.{TooManyNodes, TooManyTextBytes}
pub use Rattle.verdicts.specs.declared.failure_policy.FailurePolicy.{FailurePolicy}
unfoldable pub use Rattle.policy_code.specs.Budget.{policy_cost}
unfoldable pub use Rattle.policy_code.specs.Evaluation.{decision_of}
unfoldable pub use Rattle.policy_code.specs.Limits.{policy_nodes, policy_texts}
unfoldable pub use Rattle.policy_code.specs.Program.{condition_tail, conditions_code, denial_code, message_tail}
unfoldable pub use Rattle.policy_code.specs.Program.{outcome_tail, policy_code, validations_code}
unfoldable pub use Rattle.policy_code.specs.ProgramCode.{program_of}
unfoldable pub use Rattle.verdicts.specs.Verdict.{verdict_of}
pub use Rattle.policy_code.specs.Limits.{limit_passed}
