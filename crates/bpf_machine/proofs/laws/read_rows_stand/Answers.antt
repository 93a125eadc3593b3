-- Proofs of `laws::read_rows_stand`: the result meets the contract.

use Rattle.bpf_machine.proofs.Prelude.{row_of, int_of_row, text_const_row, size_row, of_number, spelled, candidate_at, arithmetic_at, atomic_at, branch_at, jump_at, memory_at, wide_at, null_values, start_state, insn_at, alu_row, call_row, exit_row, load_wide_row, constants_of, start_memory, next_state, alu64_of, operated, state_after}
use Rattle.std.specs.Fmt.{digits}
use Rattle.std.specs.Str.{is_utf8, chars}
use lib.Utf8.{encode}
use Rattle.helper_table.specs.Reads.{reads_by, size_reads, text_const_reads}
use Rattle.bpf_machine.specs.Reads.{limited_place, reads_to, step_reads}
use Rattle.bpf_machine.proofs.laws.read_rows_stand.Goals as goal

pub returns : goal.returns
unfolding digits is_utf8 chars encode of_number row_of int_of_row text_const_row size_row constants_of spelled candidate_at arithmetic_at atomic_at jump_at branch_at memory_at wide_at alu64_of operated call_row load_wide_row start_memory null_values start_state insn_at alu_row exit_row next_state state_after reads_by size_reads text_const_reads step_reads reads_to limited_place
returns c = search
