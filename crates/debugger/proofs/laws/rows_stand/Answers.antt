-- Proof obligations of `rows_stand` (src/laws.rt).
use Rattle.debugger.proofs.Prelude.{rules, spelled, candidate_at, arithmetic_at, jump_at, branch_at, memory_at, wide_at, hex_digits, statement_of, alu64_of, operated, null_values, start_state, insn_at, load_wide_row, store_row, alu_row, call_local_row, exit_row, jump_row, next_state, state_after, move_line, register_line, register_lines, registers_text, first_stop, is_at, is_stop, last_stop, number_of, form_of, numbered_form_of, move_form_of, shown_form_of, command_of, listing_line, listing_lines, outside_line, write_of, start_memory, value_line, bytes_from, digits_of_bytes, memory_line, memory_lines, saved_text, frame_line, frame_lines, frames_text, verdict_line, word_line, word_lines, verdict_lines, break_text, clear_text, answer_of, may_be_refused, answer_to, cut, dialogue_after, readable}
use Rattle.std.specs.Fmt.{digits}
use Rattle.insn_codec.specs.Lines.{decimal}
use Rattle.debugger.proofs.laws.rows_stand.Goals as goal

pub returns : goal.returns
unfolding decimal digits spelled candidate_at arithmetic_at jump_at branch_at memory_at wide_at statement_of alu64_of operated null_values start_state insn_at alu_row call_local_row exit_row jump_row next_state state_after hex_digits move_line register_line register_lines registers_text first_stop is_at is_stop last_stop number_of form_of numbered_form_of move_form_of shown_form_of command_of listing_line listing_lines outside_line value_line bytes_from digits_of_bytes memory_line memory_lines saved_text frame_line frame_lines frames_text verdict_line word_line word_lines verdict_lines load_wide_row store_row write_of start_memory break_text clear_text answer_of may_be_refused answer_to cut dialogue_after readable
returns c = search rules
