-- The regions of memory and their bytes, by hand: the stack, the scratch and the verdict begin at 1, 2 and 3 times
-- 2 ^ 32 and have 4096, 4096 and 2048 bytes, zeros at the start; the constants begin at 4 times 2 ^ 32.
use Rattle.std.specs.Prelude.{◌≡◌, ℕ, List, [], ◌∷◌, Some, None, Ok, Err, codes}
use Rattle.guest_memory.specs.Access.{constants_of, read_of, write_of}
use Rattle.guest_memory.specs.ErrorCodes.{fault_code}
use Rattle.guest_memory.specs.Memory.{Memory, Stack, Scratch, Verdict, Constants, bytes_in, start_memory, with_bytes}
use Rattle.guest_memory.specs.RegionWords.{word_in}
use Rattle.guest_memory.specs.Rows.{empty, read_after}
use Rattle.guest_memory.specs.Word.{overlay}
use Rattle.guest_memory.specs.declared.fault.Fault.TheVariants.{F1, F2, F3, F4, F5, F6, F7, F8, F9}
use Rattle.guest_memory.specs.declared.size.Size.TheVariants.{B, Dw}

-- a memory of these four regions
abbrev pub memory_of : List ℕ → List ℕ → List ℕ → List ℕ → Memory
memory_of stack scratch verdict constants = record { stack = stack; scratch = scratch; verdict = verdict; constants = constants }

-- each region has its bytes, and gets others alone
pub record RegionRowsHold : Type 0 where
  pub stack : bytes_in Stack (memory_of (1 ∷ []) (2 ∷ []) (3 ∷ []) (4 ∷ [])) ≡ 1 ∷ []
  pub scratch : bytes_in Scratch (memory_of (1 ∷ []) (2 ∷ []) (3 ∷ []) (4 ∷ [])) ≡ 2 ∷ []
  pub verdict : bytes_in Verdict (memory_of (1 ∷ []) (2 ∷ []) (3 ∷ []) (4 ∷ [])) ≡ 3 ∷ []
  pub constants : bytes_in Constants (memory_of (1 ∷ []) (2 ∷ []) (3 ∷ []) (4 ∷ [])) ≡ 4 ∷ []
  pub other_stack : with_bytes Stack (9 ∷ []) (memory_of (1 ∷ []) (2 ∷ []) (3 ∷ []) (4 ∷ []))
      ≡ memory_of (9 ∷ []) (2 ∷ []) (3 ∷ []) (4 ∷ [])
  pub other_scratch : with_bytes Scratch (9 ∷ []) (memory_of (1 ∷ []) (2 ∷ []) (3 ∷ []) (4 ∷ []))
      ≡ memory_of (1 ∷ []) (9 ∷ []) (3 ∷ []) (4 ∷ [])
  pub other_verdict : with_bytes Verdict (9 ∷ []) (memory_of (1 ∷ []) (2 ∷ []) (3 ∷ []) (4 ∷ []))
      ≡ memory_of (1 ∷ []) (2 ∷ []) (9 ∷ []) (4 ∷ [])
  pub other_constants : with_bytes Constants (9 ∷ []) (memory_of (1 ∷ []) (2 ∷ []) (3 ∷ []) (4 ∷ []))
      ≡ memory_of (1 ∷ []) (2 ∷ []) (3 ∷ []) (9 ∷ [])
  -- bytes that replace two in the middle of five, and the eight bytes of a word in front of more
  pub replaced : overlay (1 ∷ 2 ∷ 3 ∷ 4 ∷ 5 ∷ []) 1 (8 ∷ 9 ∷ []) ≡ 1 ∷ 8 ∷ 9 ∷ 4 ∷ 5 ∷ []
  pub first_word : word_in (1 ∷ 2 ∷ 3 ∷ 4 ∷ 5 ∷ 6 ∷ 7 ∷ 8 ∷ 9 ∷ 10 ∷ 11 ∷ 12 ∷ 13 ∷ 14 ∷ 15 ∷ 16 ∷ []) 0 ≡ 0x0807_0605_0403_0201

-- the first and the last word of the regions, and the bytes beside them, to which no access is allowed
pub record AccessRowsHold : Type 0 where
  pub first_of_stack : read_of empty 0x1_0000_0000 Dw ≡ Ok 0
  pub last_of_stack : read_after (write_of empty 0x1_0000_0ff8 Dw 0x8877_6655_4433_2211) 0x1_0000_0ff8 Dw ≡ Ok 0x8877_6655_4433_2211
  pub past_the_stack : write_of empty 0x1_0000_0ff9 Dw 1 ≡ Err F3
  pub before_the_scratch : read_of empty 0x1_ffff_ffff B ≡ Err F3
  pub first_of_scratch : read_of empty 0x2_0000_0000 Dw ≡ Ok 0
  pub last_of_scratch : read_of empty 0x2_0000_0ff8 Dw ≡ Ok 0
  pub past_the_scratch : write_of empty 0x2_0000_0ff9 Dw 1 ≡ Err F3
  pub first_of_verdict : read_of empty 0x3_0000_0000 Dw ≡ Ok 0
  -- bytes of the constants: two, one, none at any address, and one past the last
  pub two_constants : constants_of (start_memory (7 ∷ 8 ∷ 9 ∷ [])) 0x4_0000_0001 2 ≡ Some (8 ∷ 9 ∷ [])
  pub one_constant : constants_of (start_memory (7 ∷ 8 ∷ 9 ∷ [])) 0x4_0000_0000 1 ≡ Some (7 ∷ [])
  pub no_constant : constants_of empty 5 0 ≡ Some []
  pub past_the_constants : constants_of (start_memory (7 ∷ 8 ∷ 9 ∷ [])) 0x4_0000_0002 2 ≡ None

-- the codes that are printed of faults
pub record FaultCodesHold : Type 0 where
  pub f1 : fault_code F1 ≡ codes "F1"
  pub f2 : fault_code F2 ≡ codes "F2"
  pub f3 : fault_code F3 ≡ codes "F3"
  pub f4 : fault_code F4 ≡ codes "F4"
  pub f5 : fault_code F5 ≡ codes "F5"
  pub f6 : fault_code F6 ≡ codes "F6"
  pub f7 : fault_code F7 ≡ codes "F7"
  pub f8 : fault_code F8 ≡ codes "F8"
  pub f9 : fault_code F9 ≡ codes "F9"
