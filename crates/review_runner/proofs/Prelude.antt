-- The names of the library, of the crates below and of the definitions that these proofs use. Declares nothing.
pub use Rattle.std.proofs.Common.{Bool, Equal, Err, FitsSigned, Float, Greater, IfOk, IsErr, IsErrAnd, IsOk, IsSome}
pub use Rattle.std.proofs.Common.{Less, List, None, Ok, OnErr, OnOk, Option, Ordering, Result, Some, String, Vec, ℕ}
pub use Rattle.std.proofs.Common.{[], ap, append-nil, append_assoc, arith, bytes_eq, codes, cond, decimal, drop}
pub use Rattle.std.proofs.Common.{false, find, fold, get_or, if◌then◌else◌, inl, inr, is_eq, is_some, length, map}
pub use Rattle.std.proofs.Common.{nat_cmp, nat_le, nat_lt, option_and_then, option_map, refl, slice_get, slice_index}
pub use Rattle.std.proofs.Common.{rules, string_bytes, subst, suc, sym, take, true, unwrap_or, zero, ◌&&◌, ◌*◌, ◌++◌, ◌+◌}
pub use Rattle.std.proofs.Common.{◌<◌, ◌==◌, ◌^◌, ◌∙◌, ◌∷◌, ◌≡◌, ◌≤◌, ◌⊎◌}
pub use Rattle.std.proofs.lemmas.Bool.{and_from, and_parts, cases_lt, leb-true, lt-ltb, ltb-true}
pub use Rattle.std.proofs.lemmas.List.{length-map, length_push}
pub use Rattle.std.proofs.lemmas.List.Sums.{fold_push}
pub use Rattle.std.proofs.lemmas.Map.Text.{is_eq-slice_cmp}
pub use Rattle.std.proofs.lemmas.Result.{IfOk-weaker}
pub use Rattle.std.proofs.lemmas.Slice.Eq.{bytes_eq-Decides}
pub use Rattle.std.specs.BTreeMap.{is_at}
pub use Rattle.std.specs.Cmp.Lexicographic.{slice_cmp}
pub use Rattle.std.specs.Float.{binary64}
pub use Rattle.std.specs.Int.{w64}
pub use Rattle.std.specs.Map.{remove_entry}
pub use Rattle.std.specs.Option.{option_map_or}
pub use Rattle.std.specs.Ordering.{match_ordering}
pub use Rattle.std.specs.Prelude.{⊤}
pub use Rattle.std.specs.Str.{IsUtf8}
pub use Rattle.std.specs.Str.Parse.{AllDigits, ExplainsUnsignedError, HasUnsignedDigitsIfOk, IsNumeral}
pub use Rattle.std.specs.Str.Parse.{ParsesUnsigned, digits_value, without_leading_plus}
pub use Rattle.std.specs.declared.alloc.AllocError.{AllocError}
pub use Rattle.std.specs.declared.alloc.Global.{Global}
unfoldable pub use Rattle.std.specs.Char.{encode_utf8}
unfoldable pub use Rattle.std.specs.Float.{float_is_finite}
unfoldable pub use Rattle.std.specs.Str.{chars, is_utf8}
pub use Rattle.assembler.specs.Answers.{AssembleReturns, FirstLineSays}
pub use Rattle.assembler.specs.Cutting.{lines_of}
pub use Rattle.assembler.specs.Items.{SourceItem}
pub use Rattle.assembler.specs.Source.{EachSays, Source, StandFor}
pub use Rattle.assembler.specs.declared.asm_error.AsmError.{AsmError}
pub use Rattle.bpf_machine.specs.Starts.{AreDocuments, FitsNumber, HasNumbers, HaveNumbers, MembersHaveNumbers}
pub use Rattle.bpf_machine.specs.Starts.{StartsAreTables}
pub use Rattle.bpf_machine.specs.State.{State}
pub use Rattle.bpf_machine.specs.States.{StatesAreKept}
pub use Rattle.bpf_machine.specs.Step.{executed, is_running}
pub use Rattle.bpf_machine.specs.declared.status.Status.{Status}
pub use Rattle.bpf_machine.specs.declared.status.Status.TheVariants.{Exited, Running}
unfoldable pub use Rattle.bpf_machine.specs.Access.{load_row, load_signed_row, load_wide_row, store_row}
unfoldable pub use Rattle.bpf_machine.specs.Arithmetic.{alu_row, byte_swap_row, neg_row, sign_extend_row}
unfoldable pub use Rattle.bpf_machine.specs.Atomics.{atomic_row}
unfoldable pub use Rattle.bpf_machine.specs.HelperCalls.{call_row}
unfoldable pub use Rattle.bpf_machine.specs.Jumps.{branch_row, call_local_row, exit_row, jump_row}
unfoldable pub use Rattle.bpf_machine.specs.State.{start_state}
unfoldable pub use Rattle.bpf_machine.specs.Step.{next_state}
unfoldable pub use Rattle.bpf_machine.specs.Trace.{state_after}
pub use Rattle.cel_macros.specs.Environment.{Roots}
pub use Rattle.clap.proofs.CallerLemmas.{subcommand_required}
pub use Rattle.clap.proofs.WalkLemmas.{first_value-rows, one_text-rows}
unfoldable pub use Rattle.clap.proofs.OnLiterals.{clap_on_literals}
pub use Rattle.clap.specs.Faults.{bundle_step_fault, entered_fault, flag_word_fault, level_fault, long_fault}
pub use Rattle.clap.specs.Faults.{option_fault, react_fault, settle_fault, step_fault, turn_fault, use_fault}
pub use Rattle.clap.specs.Faults.{word_fault}
pub use Rattle.clap.specs.Kinds.{Kinds, or_else, values_kinds}
pub use Rattle.clap.specs.Simple.{App, Shape, built, label_of, rows_at}
pub use Rattle.clap.specs.ValueTests.{is_unsigned_in}
pub use Rattle.clap.specs.Values.{read_as}
pub use Rattle.clap.specs.Walk.{Held, Names, Row, Rule, Step, Text, Waiting, Walk, after_flag, after_step, answers_to}
pub use Rattle.clap.specs.Walk.{arg_by_id, at_row, attached_value, bundle_step, default_rows, flag_met, long_met}
pub use Rattle.clap.specs.Walk.{long_or_other, nothing_held, one_of, option_met, reacted, reading_by, row_text}
pub use Rattle.clap.specs.Walk.{rows_after, settled, settled_rows, used, walk, walk_from, with_default, with_values}
pub use Rattle.clap.specs.Walk.{word_met}
pub use Rattle.clap.specs.Words.{FailsBy, ReadsOne, fault_of, found_of, is_simple, is_simple_and_free, one_text}
pub use Rattle.clap.specs.Words.{app_of, new_app, subcommand_of, with_rule, with_subcommand}
pub use Rattle.clap.specs.declared.error.kind.ErrorKind.{ErrorKind}
pub use Rattle.clap.specs.declared.parser.matches.ValueSource.{ValueSource}
pub use Rattle.clap.specs.declared.parser.matches.ValueSource.TheVariants.{CommandLine}
unfoldable pub use Rattle.clap.specs.Faults.{flags_fault, walk_fault}
unfoldable pub use Rattle.clap.specs.Walk.{bundle_met, walked}
pub use Rattle.cli.specs.Limits.{default_steps, step_limit}
pub use Rattle.expression_code.specs.Contexts.{HasValues}
pub use Rattle.debugger.specs.Answers.{Line, SessionState}
pub use Rattle.debugger.specs.Session.{Dialogue, granted, dialogue_of, with_answer}
pub use Rattle.streams.specs.Streams.{AddsBytes, Stream, one_more}
pub use Rattle.debugger.specs.Verdict.{verdict_text, verdict_word}
unfoldable pub use Rattle.debugger.specs.Answers.{answer_of, answer_to}
unfoldable pub use Rattle.debugger.specs.Commands.{command_of, form_of}
unfoldable pub use Rattle.debugger.specs.Session.{dialogue_after}
unfoldable pub use Rattle.debugger.specs.Verdict.{verdict_line, verdict_lines, word_line, word_lines}
pub use Rattle.fast_float.specs.Text.{digits_of, minus, nearest, with_sign}
unfoldable pub use Rattle.fast_float.specs.Text.{scan}
pub use Rattle.guest_memory.specs.Word.{part, word_of}
pub use Rattle.guest_memory.specs.declared.fault.Fault.{Fault}
pub use Rattle.guest_memory.specs.declared.fault.Fault.TheVariants.{F8}
unfoldable pub use Rattle.guest_memory.specs.RegionWords.{word_in}
pub use Rattle.insn_codec.specs.Statements.{Listing}
pub use Rattle.insn_codec.specs.declared.insn.Insn.{Insn}
pub use Rattle.json.specs.Json.{if_last}
pub use Rattle.json.specs.Lex.{tokens}
unfoldable pub use Rattle.json.specs.Json.{value}
pub use Rattle.loader.specs.Contents.{version_number}
pub use Rattle.loader.specs.declared.load_error.LoadError.{LoadError}
pub use Rattle.loader.specs.declared.version.Version.TheVariants.{First}
unfoldable pub use Rattle.loader.specs.Format.{image_from, image_in}
pub use Rattle.policy_glue.specs.Budget.{policy_work}
pub use Rattle.policy_glue.specs.Checking.{TakenOrRefused, PartsEnd}
pub use Rattle.policy_glue.specs.Compiled.{IsProgram}
pub use Rattle.policy_glue.specs.Layout.{IsLayout, IsMessageWord, finding_word, message_in, outcome_word, truth_word}
pub use Rattle.policy_glue.specs.Limits.{Compiles}
pub use Rattle.policy_glue.specs.OneAnswer.{HasOneImage}
pub use Rattle.policy_glue.specs.OneImage.{OneImage}
pub use Rattle.policy_glue.specs.Policy.{Policy}
pub use Rattle.policy_glue.specs.ProgramTrees.{Decides, LeavesByExit, OutOfBudget}
pub use Rattle.policy_glue.specs.Trees.{PolicyTree}
pub use Rattle.policy_glue.specs.Verdict.{Finding, Verdict, decided, judged_by}
pub use Rattle.policy_glue.specs.declared.compile_error.CompileError.{CompileError}
pub use Rattle.policy_glue.specs.declared.failure_policy.FailurePolicy.{FailurePolicy}
unfoldable pub use Rattle.policy_glue.specs.Documents.{document_of}
unfoldable pub use Rattle.policy_glue.specs.Evaluation.{decision_of}
unfoldable pub use Rattle.policy_glue.specs.Reading.{policy_in, policy_of}
unfoldable pub use Rattle.policy_glue.specs.Verdict.{verdict_of}
pub use Rattle.serde_json.proofs.Views.{view-Object, view-lookup, view_of_ref}
unfoldable pub use Rattle.serde_json.proofs.OnLiterals.{serde_json_on_literals}
pub use Rattle.serde_json.specs.Find.{get, get_member}
pub use Rattle.serde_json.specs.Read.{float_of, is_integer, max_depth, number_from, of_items, of_json, of_members}
pub use Rattle.serde_json.specs.View.{members_view, view}
pub use Rattle.serde_json.specs.declared.value.Value.{Value}
pub use Rattle.value_store.specs.Laws.{StartIsCanonical}
pub use Rattle.value_store.specs.Placing.{Contents, charge_limit, first_values}
pub use Rattle.value_store.specs.Roots.{StoreStarts, contents_of, root_of, root_then, roots_of, sizes, start_contents}
pub use Rattle.value_store.specs.Value.{ValueOrError}
pub use Rattle.value_store.specs.declared.table_error.TableError.{TableError}
pub use Rattle.value_store.specs.declared.table_error.TableError.TheVariants.{RootsTooLarge}
pub use Rattle.review_runner.specs.Debugging.{HoldsFiles, held_by, held_view, start_of}
pub use Rattle.cli.specs.GivenFiles.{IsReadingGiven, ReadingGiven}
pub use Rattle.review_runner.specs.Debugging.{started_on}
pub use Rattle.admission.specs.Deciding.{Reply, CompilesDocument, Documents}
pub use Rattle.admission.specs.Deciding.{Reviews, decision, started}
pub use Rattle.host.specs.FileSystem.{FileSystem, IsReading, IsWriting, KeepsFiles, FileRead}
pub use Rattle.review_runner.specs.Making.{Assembled, FileBy, MadeBy, ImageFileFrom, MadeOf, MayRunOut, RunsOut}
pub use Rattle.review_runner.specs.Making.{file_from, no_file, no_program, no_text, program}
pub use Rattle.cli.specs.Number.{number_written}
pub use Rattle.review_runner.specs.Opening.{IsDueResult, IsUnrefused, OpensFile, opened, opened_by}
pub use Rattle.review_runner.specs.Order.{DocumentFiles, IsWithinLimits, OrderReturns, ReviewFiles, Order, is_session}
pub use Rattle.review_runner.specs.Order.{list, order_in, order_view, review, run_image, order_named}
pub use Rattle.review_runner.specs.Output.{OrderOutcome, Report, outcome_of, output_by, output_of, refused, report_of}
pub use Rattle.review_runner.specs.Output.{run_image_outcome, run_outcome, succeeded}
pub use Rattle.review_runner.specs.Performing.{IsDone, LacksMemory, ListingOutcome, MakesFile, Performs, PerformsBy}
pub use Rattle.review_runner.specs.Performing.{WritesImage, failed, lacks_memory, listed, making, nothing, only_reads}
pub use Rattle.review_runner.specs.Performing.{performs, unlisted, written}
pub use Rattle.review_runner.specs.PolicyFiles.{CompiledFrom, ReviewsHeld, held_with, image, named_files, no_image}
pub use Rattle.review_runner.specs.PolicyFiles.{review_outcome, reviewed, unread}
pub use Rattle.review_runner.specs.Program.{AnswersOrder, AsksOrder, ProgramEffect, DoesOrder, EndsBy}
pub use Rattle.cli.specs.Ending.{Ending}
pub use Rattle.cli.specs.Ending.{Given, System, ending_line}
pub use Rattle.review_runner.specs.Program.{Puts, cut}
pub use Rattle.streams.specs.Writing.{WritesBytes, WritesPart}
pub use Rattle.review_runner.specs.Program.{order, session, does_order, whole}
pub use Rattle.cli.specs.Refusals.{file_refusal, order_refusal, policy_refusal_of, program_refusal}
pub use Rattle.admission.specs.RootValues.{GivenHaveValues}
pub use Rattle.review_runner.specs.Running.{run_of}
pub use Rattle.admission.specs.Standing.{PolicyRun, RunAgrees}
pub use Rattle.review_runner.specs.Telling.{AreMessageReferences, IsDecided, TellsVerdict, VerdictIsTold}
pub use Rattle.review_runner.specs.Telling.{numbered_lines, outcome_line, shown_after, start, session_state_after}
pub use Rattle.review_runner.specs.declared.command_line.order.Order.{Order as CodeOrder}
pub use Rattle.review_runner.specs.declared.done.Done.{Done}
pub use Rattle.review_runner.specs.declared.images.source_kind.SourceKind.{SourceKind}
pub use Rattle.review_runner.specs.declared.images.source_kind.SourceKind.TheVariants.{PolicyDocument, ProgramText}
pub use Rattle.host.specs.declared.file_error.FileError.{FileError}
pub use Rattle.host.specs.declared.file_error.FileError.TheVariants.{Failed}
pub use Rattle.host.specs.declared.order_error.OrderError.{OrderError}
pub use Rattle.host.specs.declared.order_error.OrderError.TheVariants.{InvalidArguments}
pub use Rattle.admission.specs.declared.policy_refusal.PolicyRefusal.{PolicyRefusal}
pub use Rattle.cli.specs.declared.refusal.Refusal.{Refusal}
pub use Rattle.cli.specs.declared.refusal.Refusal.TheVariants.{File, Memory}
pub use Rattle.cli.specs.Ending.{no_words}
pub use Rattle.admission.specs.declared.run_error.RunError.{RunError}
unfoldable pub use Rattle.review_runner.specs.Commands.{celbpf_app, command, commands, entered, faults, file_rule}
unfoldable pub use Rattle.review_runner.specs.Commands.{with_commands}
unfoldable pub use Rattle.cli.specs.Arguments.{option_rule}
unfoldable pub use Rattle.cli.specs.Arguments.{required_option_rule}
unfoldable pub use Rattle.cli.specs.Arguments.{steps_rule, with_documents}
unfoldable pub use Rattle.cli.specs.Number.{number_of}
unfoldable pub use Rattle.review_runner.specs.Order.{assemble_in, compile_in, debug_in, list_in, review_in}
unfoldable pub use Rattle.review_runner.specs.Order.{run_image_in}
unfoldable pub use Rattle.review_runner.specs.Running.{run_of_file}
unfoldable pub use Rattle.review_runner.specs.Telling.{told_text}
