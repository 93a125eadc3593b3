-- The names of the library, of the crates below and of the definitions that these proofs use. Declares nothing.
pub use Rattle.std.proofs.Common.{All, Bool, Err, IfSome, IsErr, List, None, Ok, Option, Result}
pub use Rattle.std.proofs.Common.{Some, ℕ, [], ap, append-nil, append_assoc, arith, drop}
pub use Rattle.std.proofs.Common.{false, get_or, if◌then◌else◌, length, length-append, map, nat_lt}
pub use Rattle.std.proofs.Common.{refl}
pub use Rattle.std.proofs.Common.{string_bytes, subst, sym, true, true≢false}
pub use Rattle.std.proofs.Common.{◌*◌, ◌++◌, ◌+◌, ◌<◌, ◌||◌, ◌∙◌, ◌∷◌, ◌≡◌, ◌≢◌, ◌≤◌}
pub use Rattle.std.proofs.Math.ListN.{drop_of_length-le}
pub use Rattle.std.proofs.lemmas.Bool.{false≢true, ltb-false}
pub use Rattle.std.proofs.lemmas.Bool.Decides.{nat_tests}
pub use Rattle.std.proofs.lemmas.List.{drop_more}
pub use Rattle.std.proofs.lemmas.List.{map-append}
pub use Rattle.std.proofs.lemmas.List.Elements.{All-head, All-push, All-tail}
pub use Rattle.std.proofs.lemmas.List.Sums.{fold-append}
pub use Rattle.std.specs.List.{list_any}
pub use Rattle.std.specs.Prelude.{⊤}
pub use Rattle.std.specs.Result.{IsErrAnd}
unfoldable pub use Rattle.bpf_machine.specs.Access.{load_row, load_wide_row, store_row}
unfoldable pub use Rattle.bpf_machine.specs.Arithmetic.{alu_row}
unfoldable pub use Rattle.bpf_machine.specs.Decoding.{insn_at}
unfoldable pub use Rattle.bpf_machine.specs.HelperCalls.{call_row}
unfoldable pub use Rattle.bpf_machine.specs.Jumps.{branch_row, call_local_row, exit_row, jump_row}
unfoldable pub use Rattle.bpf_machine.specs.State.{null_values, start_state}
unfoldable pub use Rattle.bpf_machine.specs.Step.{next_state}
unfoldable pub use Rattle.bpf_machine.specs.Trace.{state_after}
unfoldable pub use Rattle.bpf_word.specs.Arithmetic.{alu64_of, operated}
unfoldable pub use Rattle.bpf_word.specs.Comparisons.{holds_of}
pub use Rattle.cel_macros.proofs.Expansion.{expansion_plain}
pub use Rattle.cel_macros.specs.CoreTree.{Core}
pub use Rattle.cel_macros.specs.CoreView.{core_view}
pub use Rattle.cel_macros.specs.MacroFault.{ArgumentCount, IterationName, MacroFault, NoSelection, fault_error}
pub use Rattle.cel_macros.specs.declared.core_tree.Core.{Core as CodeCore}
pub use Rattle.cel_macros.specs.declared.macro_error.MacroError.{MacroError}
unfoldable pub use Rattle.cel_macros.specs.CoreTree.{expanded}
unfoldable pub use Rattle.cel_macros.specs.Environment.{is_root, name_value, variable_value}
unfoldable pub use Rattle.cel_macros.specs.Functions.{function_named, test_named}
unfoldable pub use Rattle.cel_macros.specs.MacroFault.{macro_fault}
unfoldable pub use Rattle.cel_macros.specs.Macros.{is_has, is_map, is_variables, macro_named}
unfoldable pub use Rattle.cel_macros.specs.Meaning.{meaning}
pub use Rattle.cel_measures.specs.Measures.{depth}
pub use Rattle.cel_measures.specs.Saturated.{saturated}
unfoldable pub use Rattle.cel_measures.specs.Measures.{deepest, need, nodes}
pub use Rattle.cel_reader.proofs.OneAnswer.{one_refusal}
pub use Rattle.cel_reader.proofs.Theorems.{whole_unique}
pub use Rattle.cel_reader.proofs.Told.{one_list, only_of}
pub use Rattle.cel_reader.specs.Answers.{ReadReturns, IsUnreadable, ErrorIsAt}
pub use Rattle.cel_reader.specs.Limits.{open_limit}
pub use Rattle.cel_reader.specs.Look.{words_only}
pub use Rattle.cel_reader.specs.Tree.{TreeEntries, Tree, Trees, more_entries, more_trees, no_entries, no_trees, view}
pub use Rattle.cel_reader.specs.WellFormed.{AreWellFormed, HasWellFormedEntries, IsWellFormed}
unfoldable pub use Rattle.cel_reader.specs.Words.{is_reserved, role_of}
pub use Rattle.cel_tokens.specs.Token.{Token}
pub use Rattle.cel_tokens.specs.declared.read_error.ReadError.{ReadError}
pub use Rattle.cel_tokens.specs.declared.read_error.ReadError.TheVariants.{UnknownCharacter, InvalidTextLiteral}
pub use Rattle.cel_tokens.specs.declared.read_error.ReadError.TheVariants.{IntOutOfRange, UnexpectedToken}
pub use Rattle.cel_tokens.specs.declared.read_error.ReadError.TheVariants.{TooManyOpen, TextTooLong}
pub use Rattle.cel_types.proofs.CoreTypes.{expansion_typed}
pub use Rattle.cel_types.specs.Declarations.{Declaration, declared, depths_of, scope_of}
pub use Rattle.cel_types.specs.Types.{Typing, allowed}
pub use Rattle.cel_types.specs.declared.cel_type.CelType.{CelType}
unfoldable pub use Rattle.cel_types.specs.Scope.{name_type, variable_type}
unfoldable pub use Rattle.cel_types.specs.Typing.{typing}
pub use Rattle.tree_code.specs.Constants.{joined}
pub use Rattle.tree_code.specs.HasLiterals.{EntriesHaveLiterals, HasLiterals, HaveLiterals}
pub use Rattle.tree_code.specs.Layer.{IsEmittable}
unfoldable pub use Rattle.tree_code.specs.Code.Expressions.{code_of, texts_of}
unfoldable pub use Rattle.tree_code.specs.Code.KeptLists.{with_lists_of}
unfoldable pub use Rattle.tree_code.specs.Code.Whole.{first_path, whole_code}
unfoldable pub use Rattle.tree_code.specs.Cost.{cost}
pub use Rattle.expression_code.proofs.Pieces.{length-spelling, size-append, size-cons}
pub use Rattle.expression_code.specs.Limits.{slots_per_node, variable_depth_limit, word_limit}
pub use Rattle.expression_code.specs.Pieces.{size, spellings}
unfoldable pub use Rattle.guest_memory.specs.Access.{constants_of, read_of, write_of}
unfoldable pub use Rattle.guest_memory.specs.Memory.{start_memory}
unfoldable pub use Rattle.guest_memory.specs.RegionWords.{word_in}
unfoldable pub use Rattle.helper_table.specs.Calls.{row_of}
unfoldable pub use Rattle.helper_table.specs.Conversions.{kind_row, text_const_row}
unfoldable pub use Rattle.helper_table.specs.Numbers.{of_number}
pub use Rattle.insn_codec.specs.Limits.{slot_limit}
pub use Rattle.insn_codec.specs.declared.insn.Insn.{Insn}
pub use Rattle.insn_codec.specs.declared.insn.Insn.TheVariants.{Exit}
unfoldable pub use Rattle.insn_codec.specs.Candidate.{arithmetic_at, branch_at, candidate_at, jump_at, memory_at}
unfoldable pub use Rattle.insn_codec.specs.Candidate.{wide_at}
unfoldable pub use Rattle.insn_codec.specs.Spelled.{spelled}
pub use Rattle.loader.specs.Limits.{constants_limit}
pub use Rattle.loader.specs.declared.version.Version.TheVariants.{Second}
unfoldable pub use Rattle.loader.specs.Format.{image_from}
unfoldable pub use Rattle.value_store.specs.Documents.{document_of}
pub use Rattle.policy_glue.specs.Checked.{PartsChecked, Checks, ChecksConditions, ChecksValidation, ChecksValidations}
pub use Rattle.policy_glue.specs.Checked.{ChecksVariables, ReadsAndExpands, IsAdded, IsExpanded}
pub use Rattle.policy_code.specs.Checked.{IsChecked, IsFormedValidation, IsFormedVariable}
pub use Rattle.policy_glue.specs.Checked.{Judges, JudgesVariable, Sorts, SortsMessage}
pub use Rattle.policy_code.specs.Checked.{validation_expanded, validation_trees, variable_expanded}
pub use Rattle.policy_glue.specs.Checking.{ConditionsEnd, TakenOrRefused, IsNoValidation, IsNoneOf, IsOneOf}
pub use Rattle.policy_glue.specs.Checking.{IsExpressionRefused, IsValidation, IsTaken, IsVariable}
pub use Rattle.policy_glue.specs.OneAnswer.{HasOtherType, HasOneImage}
pub use Rattle.policy_glue.specs.Checking.{PartsEnd, ReadsTree, ValidationsEnd}
pub use Rattle.policy_glue.specs.Checked.{RefusesCondition, RefusesValidation, RefusesVariable}
pub use Rattle.policy_glue.specs.Checked.{TakesCondition, TakesValidation, TakesVariable}
pub use Rattle.policy_glue.specs.Checking.{VariablesEnd, expression, in_conditions, in_validations}
pub use Rattle.policy_code.specs.Scopes.{depth_in, scope_after, type_or_any, with_variable}
pub use Rattle.policy_glue.specs.Checking.{in_variables, judged, message, next, of_another_type, other_type, over}
pub use Rattle.policy_glue.specs.Checking.{refused, taken, texts, truths, types_of, unread}
pub use Rattle.policy_glue.specs.Checking.{variable_judged, with_depth, with_typing}
pub use Rattle.policy_glue.specs.CompileErrors.{from_macros, from_reader, in_part, from_program}
pub use Rattle.policy_glue.specs.Compiled.{CompilesTo, IsCompiled}
pub use Rattle.policy_code.specs.Emission.{EmitsProgram, HasTrees}
pub use Rattle.policy_glue.specs.Limits.{Compiles, excess}
pub use Rattle.policy_glue.specs.OneImage.{OneImage, contents}
pub use Rattle.verdicts.specs.Policy.{NamedExpression, Policy, Validation, named_view, validation_view}
pub use Rattle.policy_code.specs.Limits.{limit_passed}
pub use Rattle.policy_code.specs.ProgramTrees.{HasProgram, ProgramDecides, ProgramIsShort, ProgramStops}
pub use Rattle.verdicts.specs.Reading.{IsAcceptedPolicy}
pub use Rattle.policy_code.specs.Trees.{PolicyTree, ValidationTree, VariableTree}
pub use Rattle.policy_code.specs.declared.checked.Checked.{Checked}
pub use Rattle.policy_code.specs.declared.checked_validation.CheckedValidation.{CheckedValidation}
pub use Rattle.policy_glue.specs.declared.compile_error.CompileError.{CompileError}
pub use Rattle.policy_glue.specs.declared.compile_error.CompileError.TheVariants.{TooManyNodes, TooManyTextBytes}
pub use Rattle.policy_glue.specs.declared.compile_error.CompileError.TheVariants.{InvalidExpression, NotABool}
pub use Rattle.policy_glue.specs.declared.compile_error.CompileError.TheVariants.{MessageNotAString}
pub use Rattle.policy_glue.specs.declared.expression_error.ExpressionError.{ExpressionError}
pub use Rattle.policy_glue.specs.declared.expression_error.ExpressionError.TheVariants.{NeedsTooManyWords}
pub use Rattle.policy_glue.specs.declared.expression_error.ExpressionError.TheVariants.{VariableTooDeep, Unexpanded}
pub use Rattle.policy_glue.specs.declared.expression_error.ExpressionError.TheVariants.{Unread, Untyped}
pub use Rattle.verdicts.specs.declared.failure_policy.FailurePolicy.{FailurePolicy}
pub use Rattle.verdicts.specs.declared.named_expression.NamedExpression.{NamedExpression as CodeNamedExpression}
pub use Rattle.policy_glue.specs.declared.part_kind.PartKind.{PartKind}
pub use Rattle.policy_glue.specs.declared.part_kind.PartKind.TheVariants.{Condition, Message}
pub use Rattle.policy_glue.specs.declared.part_kind.PartKind.TheVariants.{Validation as CodeValidation}
unfoldable pub use Rattle.policy_code.specs.Budget.{policy_cost}
unfoldable pub use Rattle.policy_glue.specs.Checking.{expression_judged}
unfoldable pub use Rattle.policy_code.specs.Evaluation.{decision_of}
unfoldable pub use Rattle.policy_code.specs.Limits.{policy_nodes, policy_texts}
unfoldable pub use Rattle.verdicts.specs.Rejections.{response_text}
unfoldable pub use Rattle.policy_code.specs.Program.{condition_tail, conditions_code, denial_code, message_tail}
unfoldable pub use Rattle.policy_code.specs.Program.{outcome_tail, policy_code, validations_code}
unfoldable pub use Rattle.policy_code.specs.ProgramCode.{program_of}
unfoldable pub use Rattle.verdicts.specs.Reading.{has_head, has_spec_form, has_top_form, named_keys, named_parts}
unfoldable pub use Rattle.verdicts.specs.Reading.{policy_in, policy_of, reason_in, validation_keys}
unfoldable pub use Rattle.verdicts.specs.Reading.{validation_parts, spec_keys, spec_parts, top_keys}
unfoldable pub use Rattle.verdicts.specs.Response.{response_of, review_tree}
unfoldable pub use Rattle.verdicts.specs.Verdict.{verdict_of}
