-- Proof obligations of `instruction_rows_stand` (src/rows.rt).
use Rattle.std.proofs.Common.{arith, rules}
use Rattle.insn_codec.specs.Candidate.{arithmetic_at, candidate_at, memory_at, wide_at}
use Rattle.insn_codec.specs.Spelled.{spelled}
use Rattle.insn_codec.specs.Statements.{statement_of}
use Rattle.machine_rows.proofs.rows.instruction_rows_stand.Goals as goal

pub returns-clause-registers : goal.returns-clause-registers
unfolding spelled candidate_at arithmetic_at memory_at wide_at statement_of
returns-clause-registers c = search rules

pub returns-clause-statements : goal.returns-clause-statements
unfolding spelled candidate_at arithmetic_at memory_at wide_at statement_of
returns-clause-statements c = search rules

pub returns-clause-fields : goal.returns-clause-fields
unfolding spelled candidate_at arithmetic_at memory_at wide_at statement_of
returns-clause-fields c = record {
  jump = search rules;
  jump_past = λ h. grind (arith, h);
  long_jump = search rules;
  long_jump_past = λ h. grind (arith, h);
  branch = search rules;
  branch_past_its_offset = λ h. grind (arith, h);
  branch_past_its_operand = λ h. grind (arith, h);
  call = search rules;
  call_past = λ h. grind (arith, h);
  local_call = search rules;
  local_call_past = λ h. grind (arith, h);
  load = search rules;
  load_past = λ h. grind (arith, h);
  load_signed = search rules;
  load_signed_past = λ h. grind (arith, h);
  store_imm = search rules;
  store_imm_past_its_offset = λ h. grind (arith, h);
  store_imm_past_its_imm = λ h. grind (arith, h);
  store = search rules;
  store_past = λ h. grind (arith, h);
  exchange = search rules;
  exchange_past = λ h. grind (arith, h);
  wide_load = search rules;
  wide_load_past = λ h. grind (arith, h);
  slot = search rules;
  slot_past = λ h. grind (arith, h);
}
