-- The names that these proofs use, from the library, the crates below and these definitions. It declares nothing.
pub use Rattle.std.proofs.Common.{Bool, Err, IfErr, List, None, Ok, OnErr, OnOk, Option, Result, Some, ℕ, ℤ, []}
pub use Rattle.std.proofs.Common.{add-one, add-zero, ap, append-nil, append_assoc, arith, codes, cond, decimal, drop}
pub use Rattle.std.proofs.Common.{eqb-true, false, filter, fold, get_or, if◌then◌else◌, inl, inr, insert, length, length-append}
pub use Rattle.std.proofs.Common.{length-drop, length-take, map, nat_eq, nat_le, nat_lt, negsuc, not, option_map, pos}
pub use Rattle.std.proofs.Common.{refl, rules, slice_index, string_bytes, subst, suc, sym, take, true, zero, zero-add}
pub use Rattle.std.proofs.Common.{◌%◌, ◌&&◌, ◌*◌, ◌++◌, ◌+◌, ◌-◌, ◌/◌, ◌<◌, ◌^◌, ◌||◌, ◌∙◌, ◌∷◌, ◌≡◌, ◌≢◌, ◌≤◌, ◌⊎◌}
pub use Rattle.std.proofs.Math.Bool.{or-false}
pub use Rattle.std.proofs.Math.Nat.{pow-le-pow_right, pow-suc}
pub use Rattle.std.proofs.Math.Seq.{take-add}
pub use Rattle.std.proofs.lemmas.Bool.{and_parts, cases_lt, or_parts, or_right}
pub use Rattle.std.proofs.lemmas.Bool.Decides.{nat_tests}
pub use Rattle.std.proofs.lemmas.Fmt.{decimal_by_steps_wide, decimal_digit, decimal_step_wide}
pub use Rattle.std.proofs.lemmas.Grind.{common_steps}
pub use Rattle.std.proofs.lemmas.List.{append_cancel_left, drop-drop, length-take-le, length_push, map-append}
pub use Rattle.std.proofs.lemmas.List.{nil_from_length, take-append-drop, take-append-le, take-take, take_all, take_at}
pub use Rattle.std.proofs.lemmas.List.Elements.{All-from_get_or}
pub use Rattle.std.proofs.lemmas.List.Folds.{list_any-append, list_any_at, list_any_none}
pub use Rattle.std.proofs.lemmas.List.Sorted.{searched}
pub use Rattle.std.proofs.lemmas.List.Sums.{fold-append, fold_push, prefix_len_is}
pub use Rattle.std.proofs.lemmas.Option.{slice_get_past}
pub use Rattle.std.proofs.lemmas.Slice.Eq.{bytes_eq-Decides}
pub use Rattle.std.specs.Fmt.{signed_decimal}
pub use Rattle.std.specs.List.{list_all, list_any}
pub use Rattle.std.specs.List.Retain.{RetainsInTurn}
pub use Rattle.std.specs.List.Sorted.{IsBinarySearchResult}
pub use Rattle.std.specs.Ordering.{nat_cmp}
pub use Rattle.std.specs.Str.{bytes_eq}
unfoldable pub use Rattle.std.specs.Fmt.{digits}
pub use Rattle.bpf_machine.specs.Access.{loaded, stored}
pub use Rattle.bpf_machine.specs.Atomics.{exchanged, taken_and_stored, taken_by, where_stores}
pub use Rattle.bpf_machine.specs.Decoding.{fetched, slot_count}
pub use Rattle.bpf_machine.specs.HelperCalls.{answered}
pub use Rattle.bpf_machine.specs.Jumps.{called, newest, returned}
pub use Rattle.bpf_machine.specs.Operands.{jumped, next_slot, stopped_by}
pub use Rattle.bpf_machine.specs.State.{State}
pub use Rattle.bpf_machine.specs.Step.{by_status, executed, stepped}
pub use Rattle.bpf_machine.specs.Text.{status_text, word_text}
pub use Rattle.bpf_machine.specs.declared.frame.Frame.{Frame}
pub use Rattle.bpf_machine.specs.declared.status.Status.{Status}
pub use Rattle.bpf_machine.specs.declared.status.Status.TheVariants.{Running}
unfoldable pub use Rattle.bpf_machine.specs.Access.{load_row, load_signed_row, load_wide_row, store_row}
unfoldable pub use Rattle.bpf_machine.specs.Arithmetic.{alu_row, byte_swap_row, neg_row, sign_extend_row}
unfoldable pub use Rattle.bpf_machine.specs.Atomics.{atomic_row}
unfoldable pub use Rattle.bpf_machine.specs.Decoding.{insn_at}
unfoldable pub use Rattle.bpf_machine.specs.HelperCalls.{call_row}
unfoldable pub use Rattle.bpf_machine.specs.Jumps.{branch_row, call_local_row, exit_row, jump_row}
unfoldable pub use Rattle.bpf_machine.specs.State.{null_values, start_state}
unfoldable pub use Rattle.bpf_machine.specs.Step.{next_state}
unfoldable pub use Rattle.bpf_machine.specs.Text.{move_line, register_line, register_lines, registers_text}
unfoldable pub use Rattle.bpf_machine.specs.Trace.{state_after}
unfoldable pub use Rattle.bpf_machine.specs.WordArithmetic.{alu64_of, operated}
pub use Rattle.guest_memory.specs.Access.{region_of}
pub use Rattle.guest_memory.specs.Memory.{Memory, Region, base_of, bytes_in}
pub use Rattle.guest_memory.specs.Word.{low_bytes, part, word_of}
pub use Rattle.guest_memory.specs.declared.size.Size.TheVariants.{B, Dw}
unfoldable pub use Rattle.guest_memory.specs.Access.{constants_of, read_of, write_of}
unfoldable pub use Rattle.guest_memory.specs.Memory.{start_memory}
pub use Rattle.helper_table.specs.Outcome.{CallEnd}
unfoldable pub use Rattle.history.specs.Search.{first_stop, is_at, is_stop, last_stop}
pub use Rattle.insn_codec.specs.Lines.{hex_digit}
pub use Rattle.insn_codec.specs.Statements.{statement_slots, statement_text}
pub use Rattle.insn_codec.specs.declared.atomic_op.AtomicOp.{AtomicOp}
pub use Rattle.insn_codec.specs.declared.insn.Insn.{Insn}
pub use Rattle.insn_codec.specs.declared.insn.Insn.TheVariants.{Atomic, Call, CallLocal, Exit, Jump, JumpLong, Load}
pub use Rattle.insn_codec.specs.declared.insn.Insn.TheVariants.{LoadSigned, Store, StoreImm}
pub use Rattle.insn_codec.specs.declared.register.Register.{Register}
pub use Rattle.insn_codec.specs.declared.width.Width.{Width}
unfoldable pub use Rattle.insn_codec.specs.Candidate.{arithmetic_at, branch_at, candidate_at, jump_at, memory_at}
unfoldable pub use Rattle.insn_codec.specs.Candidate.{wide_at}
unfoldable pub use Rattle.insn_codec.specs.Lines.{hex_digits}
unfoldable pub use Rattle.insn_codec.specs.Spelled.{spelled}
unfoldable pub use Rattle.insn_codec.specs.Statements.{statement_of}
pub use Rattle.loader.specs.Contents.{Image}
pub use Rattle.value_store.specs.Value.{ValueOrError}
pub use Rattle.debugger.specs.Answers.{Answer, Line, SessionState, is_refused, says, session_state_at}
pub use Rattle.debugger.specs.Breakpoints.{SetsAndClears, has_breakpoint, in_order, place_of, with_breakpoint}
pub use Rattle.debugger.specs.Breakpoints.{without_breakpoint}
pub use Rattle.debugger.specs.CommandLines.{AsksFor, CommandsHaveLines, IsLine, IsNumbered}
pub use Rattle.debugger.specs.Commands.{FitsWords, begins_with, capped_command, hex_value, is_digit, is_hex_digit}
pub use Rattle.debugger.specs.Commands.{is_quit, numbered, read_address, read_digits}
pub use Rattle.debugger.specs.Inspection.{HasRegions, IsSized, StaysSized, memory_text}
pub use Rattle.debugger.specs.Inspection.{shown_bytes, value_text}
pub use Rattle.debugger.specs.Listing.{listing_at, statement_at}
pub use Rattle.debugger.specs.Rows.{AnswersInLines, StaysInOrder, TellsAll}
pub use Rattle.debugger.specs.Session.{Dialogue, start_dialogue, granted, has_quit, says_memory}
pub use Rattle.streams.specs.Lines.{input_lines}
pub use Rattle.debugger.specs.Session.{session_text, dialogue_of, with_answer}
pub use Rattle.streams.specs.Hearing.{HasNoFeed, HeardByResult, ReadsSome, ReadsToEnd}
pub use Rattle.streams.specs.Streams.{AddsBytes, stream}
pub use Rattle.debugger.specs.Transcript.{AnswersLine, ReadsAndWrites, Transcript, TranscriptSoFar, IsDialogue}
pub use Rattle.debugger.specs.Transcript.{SessionGoesOn, TranscriptToQuit, TranscriptToEnd, TranscriptCut, TranscriptEnds, TranscriptBreaks}
pub use Rattle.debugger.specs.Transcript.{WritesAnswer, WritesPartOfAnswer, IsSession}
pub use Rattle.debugger.specs.Transcript.{lines_of}
pub use Rattle.debugger.specs.Verdict.{message_lines, verdict_word}
pub use Rattle.debugger.specs.declared.command.Command.{Command}
pub use Rattle.debugger.specs.declared.command.Command.TheVariants.{MemoryAt, Unknown, ValueAt}
pub use Rattle.streams.specs.declared.session_error.SessionError.{SessionError}
pub use Rattle.streams.specs.declared.session_error.SessionError.TheVariants.{ReadFailed, WriteFailed}
unfoldable pub use Rattle.debugger.specs.Answers.{answer_of, answer_to, break_text, clear_text, may_be_refused}
unfoldable pub use Rattle.debugger.specs.Commands.{command_of, form_of, move_form_of, number_of, numbered_form_of}
unfoldable pub use Rattle.debugger.specs.Commands.{shown_form_of}
unfoldable pub use Rattle.debugger.specs.Inspection.{bytes_from, digits_of_bytes, frame_line, frame_lines}
unfoldable pub use Rattle.debugger.specs.Inspection.{frames_text, memory_line, memory_lines, saved_text, value_line}
unfoldable pub use Rattle.debugger.specs.Listing.{listing_line, listing_lines, outside_line}
unfoldable pub use Rattle.streams.specs.Lines.{cut, readable}
unfoldable pub use Rattle.debugger.specs.Session.{dialogue_after}
unfoldable pub use Rattle.debugger.specs.Verdict.{verdict_line, verdict_lines, word_line, word_lines}
