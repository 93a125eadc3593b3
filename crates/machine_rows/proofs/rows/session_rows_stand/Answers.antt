-- Proof obligations of `session_rows_stand` (src/rows.rt).
use Rattle.std.proofs.Common.{rules}
use Rattle.std.specs.Fmt.{digits}
use Rattle.bpf_machine.specs.Arithmetic.{alu_row}
use Rattle.bpf_machine.specs.Decoding.{insn_at}
use Rattle.bpf_machine.specs.Jumps.{exit_row}
use Rattle.bpf_machine.specs.State.{null_values, start_state}
use Rattle.bpf_machine.specs.Step.{next_state}
use Rattle.bpf_machine.specs.Text.{move_line, register_line, register_lines, registers_text}
use Rattle.bpf_machine.specs.Trace.{state_after}
use Rattle.bpf_word.specs.Arithmetic.{alu64_of, operated}
use Rattle.debugger.specs.Answers.{answer_of, answer_to, may_be_refused}
use Rattle.debugger.specs.Commands.{command_of, form_of, move_form_of, number_of, numbered_form_of, shown_form_of}
use Rattle.debugger.specs.Inspection.{bytes_from, digits_of_bytes, frame_line, frame_lines, frames_text, memory_line, memory_lines, saved_text}
use Rattle.debugger.specs.Listing.{listing_line, listing_lines, outside_line}
use Rattle.debugger.specs.Session.{dialogue_after}
use Rattle.guest_memory.specs.Memory.{start_memory}
use Rattle.insn_codec.specs.Candidate.{arithmetic_at, candidate_at, jump_at}
use Rattle.insn_codec.specs.Lines.{decimal, hex_digits}
use Rattle.insn_codec.specs.Spelled.{spelled}
use Rattle.insn_codec.specs.Statements.{statement_of}
use Rattle.streams.specs.Lines.{cut}
use Rattle.machine_rows.proofs.rows.session_rows_stand.Goals as goal

pub returns-clause-commands : goal.returns-clause-commands
unfolding digits alu_row insn_at exit_row null_values start_state next_state move_line register_line register_lines registers_text state_after alu64_of operated answer_of answer_to may_be_refused command_of form_of move_form_of number_of numbered_form_of shown_form_of bytes_from digits_of_bytes frame_line frame_lines frames_text memory_line memory_lines saved_text listing_line listing_lines outside_line dialogue_after start_memory arithmetic_at candidate_at jump_at decimal hex_digits spelled statement_of cut
returns-clause-commands c = search rules

pub returns-clause-marks : goal.returns-clause-marks
unfolding digits alu_row insn_at exit_row null_values start_state next_state move_line register_line register_lines registers_text state_after alu64_of operated answer_of answer_to may_be_refused command_of form_of move_form_of number_of numbered_form_of shown_form_of bytes_from digits_of_bytes frame_line frame_lines frames_text memory_line memory_lines saved_text listing_line listing_lines outside_line dialogue_after start_memory arithmetic_at candidate_at jump_at decimal hex_digits spelled statement_of cut
returns-clause-marks c = search rules

pub returns-clause-shown : goal.returns-clause-shown
unfolding digits alu_row insn_at exit_row null_values start_state next_state move_line register_line register_lines registers_text state_after alu64_of operated answer_of answer_to may_be_refused command_of form_of move_form_of number_of numbered_form_of shown_form_of bytes_from digits_of_bytes frame_line frame_lines frames_text memory_line memory_lines saved_text listing_line listing_lines outside_line dialogue_after start_memory arithmetic_at candidate_at jump_at decimal hex_digits spelled statement_of cut
returns-clause-shown c = search rules
