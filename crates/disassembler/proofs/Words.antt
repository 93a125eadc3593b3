-- The statement at the front of code, read by words.
use Rattle.disassembler.proofs.Prelude.{◌≡◌, ℕ, ◌<◌, ◌≤◌, List, Option, Some, None, sym, ◌∙◌, ap, arith, length, take, drop, get_or, w64, from_be_bytes, big_number, little_number, spelled, more_bytes, on_hand, statement_of, Insn as Instruction, Slot}
use Rattle.insn_codec.specs.declared.statement.Statement.TheVariants.{Insn}
use Rattle.std.specs.Option.{option_map_or}

big_is : (code : List ℕ) → 8 ≤ length code → big_number 8 code ≡ from_be_bytes w64 (take 8 code)
big_is code long = grind arith

-- the available words are the first sixteen bytes
pub on_hand_is : (code : List ℕ) (n : ℕ) (o : Option ℕ) → 8 ≤ length code → ((k : ℕ) → get_or code k 0 < 256) → n ≡ little_number 8 code
    → more_bytes o ≡ take 8 (drop 8 code) → on_hand n o ≡ take 16 code
on_hand_is code n o long small first second = grind arith

pub is_insn : (code : List ℕ) (i : Instruction) → spelled (take 16 code) ≡ Some i → Insn i ≡ statement_of code
unfolding statement_of
is_insn code i e = ap (λ (o : Option Instruction). option_map_or Insn o (Slot (from_be_bytes w64 (take 8 code)))) (sym e)

pub is_slot : (code : List ℕ) (n : ℕ) → 8 ≤ length code → spelled (take 16 code) ≡ None → n ≡ big_number 8 code → Slot n ≡ statement_of code
unfolding statement_of
is_slot code n long e w = ap Slot (w ∙ big_is code long) ∙ ap (λ (o : Option Instruction). option_map_or Insn o (Slot (from_be_bytes w64 (take 8 code)))) (sym e)
