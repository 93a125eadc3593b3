-- Proof obligations of `rows_stand` (src/laws.rt).
use Rattle.disassembler.proofs.Prelude.{refl, arithmetic_at, branch_at, candidate_at, jump_at, memory_at, wide_at, decimal, hex_digits, spelled, statement_of, ended, place}
use Rattle.disassembler.proofs.laws.rows_stand.Goals as goal

pub returns : goal.returns
unfolding statement_of spelled candidate_at arithmetic_at jump_at branch_at memory_at wide_at decimal hex_digits
returns c = record {
  no_code = record { statements = _; lists = ended; text_is = refl };
  mov_and_exit = record { statements = _; lists = place (place ended); text_is = refl };
  byte_order = record { statements = _; lists = place ended; text_is = refl };
  store = record { statements = _; lists = place ended; text_is = refl };
  store_of_an_immediate = record { statements = _; lists = place ended; text_is = refl };
  load_below = record { statements = _; lists = place ended; text_is = refl };
  negative_immediate = record { statements = _; lists = place ended; text_is = refl };
  half_a_wide_load = record { statements = _; lists = place ended; text_is = refl };
  jump_into_a_wide_load = record { statements = _; lists = place (place (place ended)); text_is = refl };
  inside_a_wide_load = refl;
}
