-- Proofs of `laws::instructions_stand`: the result meets the contract.

use Rattle.bpf_machine.proofs.Prelude.{rules, spelled, candidate_at, arithmetic_at, atomic_at, branch_at, jump_at, memory_at, wide_at, null_values, start_state, insn_at, alu_row, call_local_row, exit_row, jump_row, load_row, load_wide_row, store_row, constants_of, read_of, write_of, start_memory, next_state, alu32_of, alu64_of, operated, state_after, stop_place, hex_digits, move_line}
use Rattle.std.specs.Fmt.{digits}
use Rattle.bpf_word.specs.Bytes.{swap_of}
use Rattle.bpf_word.specs.Comparisons.{holds_of}
use Rattle.bpf_word.specs.Signs.{sext_of, signed_of, word_of}
use Rattle.bpf_machine.specs.Access.{load_signed_row}
use Rattle.bpf_machine.specs.Jumps.{branch_row}
use Rattle.bpf_machine.proofs.laws.instructions_stand.Goals as goal

pub returns-clause-programs : goal.returns-clause-programs
unfolding digits spelled candidate_at arithmetic_at atomic_at branch_at jump_at memory_at wide_at null_values start_state insn_at alu_row call_local_row exit_row jump_row branch_row load_row load_signed_row load_wide_row store_row constants_of read_of write_of start_memory next_state alu32_of alu64_of operated holds_of sext_of signed_of word_of state_after stop_place hex_digits move_line
returns-clause-programs c = search rules

pub returns-clause-arithmetic : goal.returns-clause-arithmetic
unfolding alu32_of alu64_of operated swap_of sext_of signed_of word_of
returns-clause-arithmetic c = search rules

pub returns-clause-comparisons : goal.returns-clause-comparisons
unfolding holds_of sext_of signed_of word_of
returns-clause-comparisons c = search rules

pub returns-clause-atomics : goal.returns-clause-atomics
unfolding alu32_of alu64_of operated
returns-clause-atomics c = search rules
