-- Proof obligations of `run_rows_stand` (src/rows.rt).
use Rattle.std.proofs.Common.{rules}
use Rattle.bpf_machine.specs.Access.{load_row, load_signed_row, load_wide_row}
use Rattle.bpf_machine.specs.Arithmetic.{byte_swap_row, neg_row, sign_extend_row}
use Rattle.bpf_machine.specs.Decoding.{insn_at}
use Rattle.bpf_machine.specs.State.{start_state}
use Rattle.bpf_machine.specs.Step.{next_state}
use Rattle.bpf_word.specs.Arithmetic.{alu64_of, operated}
use Rattle.bpf_word.specs.Bytes.{swap_of}
use Rattle.bpf_word.specs.Signs.{sext_of, signed_of, word_of}
use Rattle.insn_codec.specs.Candidate.{arithmetic_at, branch_at, candidate_at, jump_at, memory_at, wide_at}
use Rattle.insn_codec.specs.Spelled.{spelled}
use Rattle.machine_rows.proofs.rows.run_rows_stand.Goals as goal

pub returns-clause-addresses : goal.returns-clause-addresses
unfolding load_row load_signed_row load_wide_row byte_swap_row neg_row sign_extend_row insn_at start_state next_state alu64_of operated swap_of sext_of signed_of word_of arithmetic_at branch_at candidate_at jump_at memory_at wide_at spelled
returns-clause-addresses c = search rules

pub returns-clause-frames : goal.returns-clause-frames
unfolding load_row load_signed_row load_wide_row byte_swap_row neg_row sign_extend_row insn_at start_state next_state alu64_of operated swap_of sext_of signed_of word_of arithmetic_at branch_at candidate_at jump_at memory_at wide_at spelled
returns-clause-frames c = search rules

pub returns-clause-steps : goal.returns-clause-steps
unfolding load_row load_signed_row load_wide_row byte_swap_row neg_row sign_extend_row insn_at start_state next_state alu64_of operated swap_of sext_of signed_of word_of arithmetic_at branch_at candidate_at jump_at memory_at wide_at spelled
returns-clause-steps c = search rules
