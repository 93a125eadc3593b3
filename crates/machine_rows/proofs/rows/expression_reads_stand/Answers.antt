-- Proof obligations of `expression_reads_stand` (src/rows.rt).
use lib.Count.{count_leading_zeros}
use lib.Utf8.{encode}
use Rattle.std.proofs.Common.{ℕ, ◌+◌, ap, if◌then◌else◌, nat_le, refl}
use Rattle.std.specs.Fmt.{digits}
use Rattle.std.specs.Str.{chars, is_utf8}
use Rattle.bpf_machine.specs.Access.{load_wide_row}
use Rattle.bpf_machine.specs.Arithmetic.{alu_row}
use Rattle.bpf_machine.specs.Decoding.{insn_at}
use Rattle.bpf_machine.specs.HelperCalls.{call_row}
use Rattle.bpf_machine.specs.Jumps.{exit_row}
use Rattle.bpf_machine.specs.Reads.{limited_place, reads_to, step_reads}
use Rattle.bpf_machine.specs.State.{start_state}
use Rattle.bpf_machine.specs.Step.{next_state}
use Rattle.bpf_machine.specs.Trace.{state_after}
use Rattle.bpf_word.specs.Arithmetic.{alu64_of, operated}
use Rattle.guest_memory.specs.Access.{constants_of}
use Rattle.guest_memory.specs.Memory.{start_memory}
use Rattle.helper_table.specs.Calls.{row_of}
use Rattle.helper_table.specs.Conversions.{text_const_row}
use Rattle.helper_table.specs.Lookups.{field_row}
use Rattle.helper_table.specs.Numbers.{of_number}
use Rattle.helper_table.specs.Reads.{contains_reads, equal_reads, key_reads, less_reads, member_reads, reads_by, size_reads, text_const_reads}
use Rattle.insn_codec.specs.Candidate.{arithmetic_at, candidate_at, jump_at, wide_at}
use Rattle.insn_codec.specs.Spelled.{spelled}
use Rattle.value_store.proofs.Prelude.{escape_byte}
use Rattle.machine_rows.proofs.rows.expression_reads_stand.Goals as goal

pub returns-clause-calls : goal.returns-clause-calls
unfolding of_number reads_by text_const_reads key_reads size_reads equal_reads less_reads contains_reads member_reads constants_of start_memory escape_byte digits count_leading_zeros
returns-clause-calls c = search

pub returns-clause-loops : goal.returns-clause-loops
unfolding of_number reads_by text_const_reads key_reads contains_reads constants_of start_memory count_leading_zeros
returns-clause-loops c = record {
  loop_items = λ t is. refl;
  loop_field = λ t is. refl;
  loop_literal = λ t is. refl;
  loop_contains = λ t is h. ap (λ (n : ℕ). if nat_le 2 n then n + 2 else 0) h;
  last_turn = refl;
  turn_too_many = refl;
}

pub returns-clause-runs : goal.returns-clause-runs
unfolding digits is_utf8 chars encode of_number row_of field_row text_const_row constants_of spelled candidate_at arithmetic_at jump_at wide_at alu64_of operated call_row load_wide_row start_memory start_state insn_at alu_row exit_row next_state state_after reads_by key_reads text_const_reads contains_reads step_reads reads_to limited_place count_leading_zeros
returns-clause-runs c = search
