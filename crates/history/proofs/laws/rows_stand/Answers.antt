-- Proof obligations of `rows_stand` (src/laws.rt).
use Rattle.history.proofs.Prelude.{rules, first_stop, is_at, is_stop, last_stop, next_state, state_after}
use Rattle.insn_codec.specs.Candidate.{branch_at, candidate_at, jump_at}
use Rattle.insn_codec.specs.Spelled.{spelled}
use Rattle.bpf_machine.specs.Decoding.{insn_at}
use Rattle.bpf_machine.specs.Jumps.{exit_row, jump_row}
use Rattle.bpf_machine.specs.State.{null_values, start_state}
use Rattle.history.proofs.laws.rows_stand.Goals as goal

pub returns : goal.returns
unfolding candidate_at branch_at jump_at spelled insn_at exit_row jump_row null_values start_state next_state state_after is_at is_stop first_stop last_stop
returns c = search rules
