-- The names of the library, of the crates below and of the definitions that these proofs use. Declares nothing.
pub use Rattle.std.proofs.Common.{All, Bool, Err, FitsSigned, List, None, Ok, Option, Result, Some, Vec, ℕ, ℤ, []}
pub use Rattle.std.proofs.Common.{add-one, ap, append_assoc, arith, drop, false, if◌then◌else◌, inl, inr, length}
pub use Rattle.std.proofs.Common.{length-append, lit≤, ltb-true, map, nat_le, nat_lt, option_and_then, option_map}
pub use Rattle.std.proofs.Common.{refl, rules, slice_get, slice_index, slice_index_or, slice_set, subst, suc, sym}
pub use Rattle.std.proofs.Common.{take, true, vec_len, zero, ◌*◌, ◌++◌, ◌-◌, ◌<◌, ◌^◌, ◌∙◌, ◌∷◌, ◌≡◌, ◌≤◌}
pub use Rattle.std.proofs.Math.ListN.{length-set}
pub use Rattle.std.proofs.lemmas.Bool.{cases_lt, leb-true}
pub use Rattle.std.proofs.lemmas.Bool.Decides.{nat_tests}
pub use Rattle.std.proofs.lemmas.Int.{to_z-of_z}
pub use Rattle.std.proofs.lemmas.List.{drop_all, drop_more, length-drop, length-take, take-append-drop}
pub use Rattle.std.proofs.lemmas.List.Elements.{All-append, All-cons, All-drop, All-head, All-nil, All-tail, All-take}
pub use Rattle.std.proofs.lemmas.Option.{slice_get_past}
pub use Rattle.std.specs.Global.{Global}
pub use Rattle.std.specs.Int.{cast_unsigned, w64}
unfoldable pub use Rattle.std.specs.Fmt.{digits}
unfoldable pub use Rattle.std.specs.Str.{chars, is_utf8}
pub use Rattle.bpf_word.specs.Halves.{UpperHalfIsZero}
pub use Rattle.bpf_word.specs.Operations.{ResultsAreWords}
unfoldable pub use Rattle.bpf_word.specs.Arithmetic.{alu32_of, alu64_of, operated}
pub use Rattle.guest_memory.specs.Access.{size_bytes}
pub use Rattle.guest_memory.specs.Laws.{ReadIsBytes, StartIsZero, WriteIsBytes}
pub use Rattle.guest_memory.specs.Memory.{IsMemory, Memory}
unfoldable pub use Rattle.guest_memory.specs.Access.{constants_of, read_of, stores_of, write_of}
unfoldable pub use Rattle.guest_memory.specs.Memory.{start_memory}
pub use Rattle.helper_table.proofs.Bounded.{looser, looser_entries, looser_items}
pub use Rattle.helper_table.specs.Calls.{call_end}
pub use Rattle.helper_table.specs.Outcome.{CallEnd, Halts, Leaves}
pub use Rattle.helper_table.specs.Tables.{AreEntriesBounded, AreItemsBounded, IsBounded, IsResultBounded, IsTable}
pub use Rattle.helper_table.specs.Tables.{TablesAreKept}
unfoldable pub use Rattle.helper_table.specs.Calls.{row_of}
unfoldable pub use Rattle.helper_table.specs.Conversions.{int_new_row, int_of_row, kind_row, text_const_row}
unfoldable pub use Rattle.helper_table.specs.Lookups.{size_row}
unfoldable pub use Rattle.helper_table.specs.Numbers.{of_number}
pub use Rattle.insn_codec.specs.Codes.{register_number}
pub use Rattle.insn_codec.specs.Limits.{slot_limit}
pub use Rattle.insn_codec.specs.Spelled.{SpelledIsSpelling}
pub use Rattle.insn_codec.specs.Spelling.{BeginsWith, IsInsn, IsOperand, spelling}
pub use Rattle.insn_codec.specs.declared.alu_op.AluOp.{AluOp}
pub use Rattle.insn_codec.specs.declared.atomic_op.AtomicOp.{AtomicOp}
pub use Rattle.insn_codec.specs.declared.byte_order.ByteOrder.{ByteOrder}
pub use Rattle.insn_codec.specs.declared.comparison.Comparison.{Comparison}
pub use Rattle.insn_codec.specs.declared.extension.Extension.{Extension}
pub use Rattle.insn_codec.specs.declared.insn.Insn.{Insn}
pub use Rattle.insn_codec.specs.declared.insn.Insn.TheVariants.{Alu, Atomic, Branch, ByteSwap, Call, CallLocal, Exit}
pub use Rattle.insn_codec.specs.declared.insn.Insn.TheVariants.{Jump, JumpLong, Load, LoadSigned, LoadWide, Neg}
pub use Rattle.insn_codec.specs.declared.insn.Insn.TheVariants.{SignExtend, Store, StoreImm}
pub use Rattle.insn_codec.specs.declared.operand.Operand.{Operand}
pub use Rattle.insn_codec.specs.declared.operand.Operand.TheVariants.{Imm, Reg}
pub use Rattle.insn_codec.specs.declared.register.Register.{Register}
pub use Rattle.insn_codec.specs.declared.register.Register.TheVariants.{R0, R1, R2, R3, R4, R5, R6, R7, R8, R9}
pub use Rattle.insn_codec.specs.declared.signed_size.SignedSize.{SignedSize}
pub use Rattle.insn_codec.specs.declared.size.Size.{Size}
pub use Rattle.insn_codec.specs.declared.swap_width.SwapWidth.{SwapWidth}
pub use Rattle.insn_codec.specs.declared.width.Width.{Width}
unfoldable pub use Rattle.insn_codec.specs.Candidate.{arithmetic_at, atomic_at, branch_at, candidate_at, jump_at}
unfoldable pub use Rattle.insn_codec.specs.Candidate.{memory_at, wide_at}
unfoldable pub use Rattle.insn_codec.specs.Lines.{hex_digits}
unfoldable pub use Rattle.insn_codec.specs.Spelled.{spelled}
pub use Rattle.loader.specs.Contents.{Image}
pub use Rattle.serde_json.specs.Find.{as_i64}
pub use Rattle.value_store.specs.Roots.{contents_of, is_root, items_value, members_value, root_of, root_then}
pub use Rattle.value_store.specs.Roots.{root_value, roots_of, sizes, value_of}
pub use Rattle.value_store.specs.Size.{entries_size, items_size, size_of}
pub use Rattle.value_store.specs.Value.{Entries, Items, Value, ValueOrError, keys_of, list_of, value}
pub use Rattle.value_store.specs.declared.table_error.TableError.{TableError}
pub use Rattle.value_store.specs.declared.table_error.TableError.TheVariants.{NotAnObject, RootsTooLarge}
pub use Rattle.bpf_machine.specs.Access.{loaded, stored}
pub use Rattle.bpf_machine.specs.Atomics.{exchanged, is_read_only, is_stored, taken_and_stored, taken_by}
pub use Rattle.bpf_machine.specs.Atomics.{taker, where_stores}
pub use Rattle.bpf_machine.specs.Conversions.{atomic_memory_size, memory_size}
pub use Rattle.bpf_machine.specs.Decoding.{DecodesSpelling, fetched, slot_count}
pub use Rattle.bpf_machine.specs.StepResults.{NextPcIs}
pub use Rattle.bpf_machine.specs.HelperCalls.{answered, arguments}
pub use Rattle.bpf_machine.specs.Jumps.{called, caller, newest, returned}
pub use Rattle.bpf_machine.specs.Laws.{is_running-true, state_after-stop, state_after-zero, stays_stopped}
pub use Rattle.bpf_machine.specs.Laws.{stop_place-stops, stop_place_only, stops_once}
pub use Rattle.bpf_machine.specs.Limits.{record_limit}
pub use Rattle.bpf_machine.specs.Operands.{is_frame_pointer, next_slot, operand_word, register_in, result_in}
pub use Rattle.bpf_machine.specs.Starts.{AreDocuments, FitsNumber, HasNumbers, HaveNumbers, MembersHaveNumbers}
pub use Rattle.bpf_machine.specs.Starts.{StartsAreTables}
pub use Rattle.bpf_machine.specs.State.{State}
pub use Rattle.bpf_machine.specs.States.{IsFrame, IsState, IsWord, StatesAreKept, StepsAreRows}
pub use Rattle.bpf_machine.specs.Step.{by_status, executed, is_running, stepped}
pub use Rattle.bpf_machine.specs.Trace.{IsStop}
pub use Rattle.bpf_machine.specs.Words.{alu_result}
pub use Rattle.bpf_machine.specs.declared.frame.Frame.{Frame}
pub use Rattle.bpf_machine.specs.declared.status.Status.{Status}
pub use Rattle.bpf_machine.specs.declared.status.Status.TheVariants.{Fault, Running}
unfoldable pub use Rattle.bpf_machine.specs.Access.{load_row, load_signed_row, load_wide_row, store_row}
unfoldable pub use Rattle.bpf_machine.specs.Arithmetic.{alu_row, byte_swap_row, neg_row, sign_extend_row}
unfoldable pub use Rattle.bpf_machine.specs.Atomics.{atomic_row}
unfoldable pub use Rattle.bpf_machine.specs.Decoding.{insn_at, insns_before}
unfoldable pub use Rattle.bpf_machine.specs.HelperCalls.{call_row, call_takes_memory}
unfoldable pub use Rattle.bpf_machine.specs.Jumps.{branch_row, call_local_row, exit_row, jump_row}
unfoldable pub use Rattle.bpf_machine.specs.State.{null_values, start_state}
unfoldable pub use Rattle.bpf_machine.specs.Step.{next_state, takes_memory}
unfoldable pub use Rattle.bpf_machine.specs.Text.{move_line}
unfoldable pub use Rattle.bpf_machine.specs.Trace.{state_after, stop_place}
