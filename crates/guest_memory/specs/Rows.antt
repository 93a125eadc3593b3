-- Loads and stores worked out by hand.
use Rattle.std.specs.Prelude.{◌≡◌, ℕ, [], ◌∷◌, Result, Ok, Err, IsOk}
use Rattle.guest_memory.specs.Memory.{Memory, start_memory}
use Rattle.guest_memory.specs.Access.{read_of, stores_of, write_of}
use Rattle.guest_memory.specs.RegionWords.{word_in}
use Rattle.guest_memory.specs.declared.fault.Fault as fault
use Rattle.guest_memory.specs.declared.fault.Fault.TheVariants.{F3, F4}
use Rattle.guest_memory.specs.declared.size.Size.{Size, TheVariants.B, TheVariants.H, TheVariants.W, TheVariants.Dw}

-- a program's memory without constants
abbrev pub empty : Memory
empty = start_memory []

-- the result of a load after a store
abbrev pub read_after : Result Memory fault.Fault → ℕ → Size → Result ℕ fault.Fault
read_after (Ok m) address size = read_of m address size
read_after (Err f) address size = Err f

-- a store into the first eight bytes of the scratch
abbrev pub stored : Result Memory fault.Fault
stored = write_of empty 0x2_0000_0000 Dw 0x8877_6655_4433_2211

-- loads and stores with their results
pub record MemoryRowsHold : Type 0 where
  pub last_of_verdict : IsOk (write_of empty 0x3_0000_07f8 Dw 1)
  pub past_the_verdict : write_of empty 0x3_0000_07f9 Dw 1 ≡ Err F3
  pub into_constants : write_of (start_memory (7 ∷ [])) 0x4_0000_0000 B 1 ≡ Err F4
  pub may_store_last_of_verdict : stores_of empty 0x3_0000_07f8 Dw ≡ Ok tt
  pub may_not_store_past_the_verdict : stores_of empty 0x3_0000_07f9 Dw ≡ Err F3
  pub may_not_store_into_constants : stores_of (start_memory (7 ∷ [])) 0x4_0000_0000 B ≡ Err F4
  pub of_constants : read_of (start_memory (7 ∷ [])) 0x4_0000_0000 B ≡ Ok 7
  pub into_no_constants : write_of empty 0x4_0000_0000 B 1 ≡ Err F3
  pub does_not_wrap : read_of empty 0xffff_ffff_ffff_ffff Dw ≡ Err F3
  pub before_the_stack : read_of empty 0xffff_ffff H ≡ Err F3
  pub whole : read_after stored 0x2_0000_0000 Dw ≡ Ok 0x8877_6655_4433_2211
  pub half : read_after stored 0x2_0000_0000 H ≡ Ok 0x2211
  pub four_bytes : read_after stored 0x2_0000_0000 W ≡ Ok 0x4433_2211
  pub last_half_of_verdict : IsOk (write_of empty 0x3_0000_07fe H 1)
  pub half_past_the_verdict : write_of empty 0x3_0000_07ff H 1 ≡ Err F3
  pub last_four_of_verdict : IsOk (write_of empty 0x3_0000_07fc W 1)
  pub four_past_the_verdict : write_of empty 0x3_0000_07fd W 1 ≡ Err F3
  pub byte_0 : read_after stored 0x2_0000_0000 B ≡ Ok 0x11
  pub byte_1 : read_after stored 0x2_0000_0001 B ≡ Ok 0x22
  pub byte_2 : read_after stored 0x2_0000_0002 B ≡ Ok 0x33
  pub byte_3 : read_after stored 0x2_0000_0003 B ≡ Ok 0x44
  pub byte_4 : read_after stored 0x2_0000_0004 B ≡ Ok 0x55
  pub byte_5 : read_after stored 0x2_0000_0005 B ≡ Ok 0x66
  pub byte_6 : read_after stored 0x2_0000_0006 B ≡ Ok 0x77
  pub byte_7 : read_after stored 0x2_0000_0007 B ≡ Ok 0x88
  pub second_word : word_in (1 ∷ 2 ∷ 3 ∷ 4 ∷ 5 ∷ 6 ∷ 7 ∷ 8 ∷ 9 ∷ 10 ∷ 11 ∷ 12 ∷ 13 ∷ 14 ∷ 15 ∷ 16 ∷ []) 1 ≡ 0x100f_0e0d_0c0b_0a09
  pub byte_8 : read_after stored 0x2_0000_0008 B ≡ Ok 0
