-- Proofs of `laws::rows_stand`: the result meets the contract.

use Rattle.bpf_machine.proofs.Prelude.{rules, row_of, kind_row, int_new_row, int_of_row, text_const_row, size_row, of_number, spelled, candidate_at, arithmetic_at, atomic_at, branch_at, jump_at, memory_at, wide_at, null_values, start_state, insn_at, alu_row, call_row, call_takes_memory, call_local_row, exit_row, jump_row, load_row, load_wide_row, store_row, atomic_row, constants_of, read_of, stores_of, write_of, start_memory, next_state, takes_memory, alu32_of, alu64_of, operated, state_after, stop_place, hex_digits, move_line}
use Rattle.std.specs.Fmt.{digits}
use Rattle.std.specs.Str.{is_utf8, chars}
use lib.Utf8.{encode}
use Rattle.bpf_machine.proofs.Nulls.{nulls_table}
use Rattle.bpf_machine.proofs.laws.rows_stand.Goals as goal

pub returns : goal.returns
unfolding digits is_utf8 chars encode of_number row_of kind_row int_new_row int_of_row text_const_row size_row constants_of spelled candidate_at arithmetic_at atomic_at jump_at branch_at memory_at wide_at alu32_of alu64_of operated call_local_row call_row call_takes_memory jump_row load_row load_wide_row store_row atomic_row read_of stores_of write_of start_memory null_values start_state insn_at alu_row exit_row next_state takes_memory state_after stop_place hex_digits move_line
returns c = search (rules, nulls_table)
