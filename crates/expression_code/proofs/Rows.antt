-- Programs run by hand, step by step.
use Rattle.expression_code.proofs.Prelude.{refl, spelled, candidate_at, arithmetic_at, branch_at, jump_at, memory_at, wide_at, null_values, start_state, insn_at, alu_row, call_row, branch_row, call_local_row, exit_row, jump_row, load_row, load_wide_row, store_row, read_of, write_of, start_memory, row_of, equal_row, not_row, of_number, next_state, alu64_of, operated, holds_of, state_after, word_in, cost_where, list_new_row, push_row, count_row, item_row, exists_one_turn, MacroRowsStand, RunEndRowsHold}

pub rows_stand : RunEndRowsHold
unfolding spelled candidate_at arithmetic_at branch_at jump_at memory_at wide_at null_values start_state insn_at alu_row branch_row call_row call_local_row exit_row jump_row load_row load_wide_row store_row read_of write_of start_memory row_of equal_row not_row of_number next_state alu64_of operated holds_of state_after cost_where word_in
rows_stand = record { filled_counts = refl; open_counts = refl; filled_and_open_counts_once = refl; filled_before_is_none = refl; unused_is_none = refl; variable_and_true_exits = refl; null_is_not_true_exits = refl }

pub macro_rows_stand : MacroRowsStand
unfolding spelled candidate_at arithmetic_at branch_at jump_at memory_at wide_at null_values start_state insn_at alu_row branch_row call_row call_local_row exit_row jump_row load_row load_wide_row store_row read_of write_of start_memory row_of list_new_row push_row count_row item_row of_number exists_one_turn next_state alu64_of operated holds_of state_after
macro_rows_stand = record { one_of_two_exits = refl; first_decides_exits = refl; over_no_range_exits = refl }
