-- The laws of the format.
use Rattle.std.specs.Prelude.{◌≡◌, ◌↔◌, true, false, List, [], ◌∷◌, ◌++◌, ℕ, take, Ok, Err, codes}
use Rattle.loader.specs.Contents.{Image, IsImage, AreBytes}
use Rattle.loader.specs.ErrorCodes.{load_error_code}
use Rattle.loader.specs.Format.{image_in, image_from, file_of, is_bad_count, is_too_long}
use Rattle.loader.specs.declared.load_error.LoadError.TheVariants.{TooShort, UnknownMagic, BadSlotCount, ConstantsTooLong, BadLength, Memory}
use Rattle.loader.specs.declared.version.Version.TheVariants.{First, Second}

-- a file that is read as an image is the file of that image, which is within the limits
abbrev pub HoldsItsFile : Type 0
HoldsItsFile =
    (file : List ℕ) (c : Image) → AreBytes file → image_in file ≡ Ok c → (file ≡ file_of c) × IsImage c

-- the file of an image within the limits is read as that image
abbrev pub ReadsBack : Type 0
ReadsBack = (c : Image) → IsImage c → image_in (file_of c) ≡ Ok c

-- code and constants make an image of either version exactly if they are within the limits
abbrev pub KeepsTheLimits : Type 0
KeepsTheLimits = (c : Image) → (image_from c.version c.code c.constants ≡ Ok c) ↔ IsImage c

-- r0 = 5; r0 += 2; exit
abbrev three_slots : List ℕ
three_slots =
    0xb7 ∷ 0 ∷ 0 ∷ 0 ∷ 5 ∷ 0 ∷ 0 ∷ 0 ∷ 7 ∷ 0 ∷ 0 ∷ 0 ∷ 2 ∷ 0 ∷ 0 ∷ 0 ∷ 0x95 ∷ 0 ∷ 0 ∷ 0 ∷ 0 ∷ 0 ∷ 0 ∷ 0 ∷ []

-- files that were decoded by hand
pub record ImageFileRowsHold : Type 0 where
  pub program : image_in (codes "CELBPF01" ++ (3 ∷ 0 ∷ 0 ∷ 0 ∷ 0 ∷ 0 ∷ 0 ∷ 0 ∷ three_slots))
      ≡ Ok (record { version = First; code = three_slots; constants = [] })
  pub second_version : image_in (codes "CELBPF02" ++ (3 ∷ 0 ∷ 0 ∷ 0 ∷ 0 ∷ 0 ∷ 0 ∷ 0 ∷ three_slots))
      ≡ Ok (record { version = Second; code = three_slots; constants = [] })
  pub one_byte_short : image_in (codes "CELBPF01" ++ (3 ∷ 0 ∷ 0 ∷ 0 ∷ 0 ∷ 0 ∷ 0 ∷ 0 ∷ take 23 three_slots)) ≡ Err BadLength
  pub empty : image_in [] ≡ Err TooShort
  pub other_magic : image_in (codes "CELBPF03" ++ (3 ∷ 0 ∷ 0 ∷ 0 ∷ 0 ∷ 0 ∷ 0 ∷ 0 ∷ three_slots)) ≡ Err UnknownMagic
  pub no_slots : image_in (codes "CELBPF01" ++ (0 ∷ 0 ∷ 0 ∷ 0 ∷ 0 ∷ 0 ∷ 0 ∷ 0 ∷ [])) ≡ Err BadSlotCount
  pub many_slots : image_in (codes "CELBPF01" ++ (1 ∷ 0 ∷ 1 ∷ 0 ∷ 0 ∷ 0 ∷ 0 ∷ 0 ∷ [])) ≡ Err BadSlotCount
  -- all four bytes of both numbers count
  pub highest_byte_of_slots : image_in (codes "CELBPF01" ++ (1 ∷ 0 ∷ 0 ∷ 1 ∷ 0 ∷ 0 ∷ 0 ∷ 0 ∷ three_slots)) ≡ Err BadSlotCount
  pub highest_byte_of_constants : image_in (codes "CELBPF01" ++ (3 ∷ 0 ∷ 0 ∷ 0 ∷ 0 ∷ 0 ∷ 0 ∷ 1 ∷ three_slots)) ≡ Err ConstantsTooLong
  pub long_constants : image_in (codes "CELBPF01" ++ (1 ∷ 0 ∷ 0 ∷ 0 ∷ 1 ∷ 0 ∷ 0x10 ∷ 0 ∷ [])) ≡ Err ConstantsTooLong
  pub second_file : file_of (record { version = Second; code = three_slots; constants = [] })
      ≡ codes "CELBPF02" ++ (3 ∷ 0 ∷ 0 ∷ 0 ∷ 0 ∷ 0 ∷ 0 ∷ 0 ∷ three_slots)
  pub fifteen_bytes : image_in (codes "CELBPF01" ++ (3 ∷ 0 ∷ 0 ∷ 0 ∷ 0 ∷ 0 ∷ 0 ∷ [])) ≡ Err TooShort
  -- all 16 bytes of the head are there, but not what it states
  pub sixteen_bytes : image_in (codes "CELBPF01" ++ (3 ∷ 0 ∷ 0 ∷ 0 ∷ 0 ∷ 0 ∷ 0 ∷ 0 ∷ [])) ≡ Err BadLength
  pub other_letters : image_in (codes "CELBPG01" ++ (3 ∷ 0 ∷ 0 ∷ 0 ∷ 0 ∷ 0 ∷ 0 ∷ 0 ∷ three_slots)) ≡ Err UnknownMagic
  pub short_before_magic : image_in (codes "CELBPF03") ≡ Err TooShort
  pub magic_before_slots : image_in (codes "CELBPF03" ++ (0 ∷ 0 ∷ 0 ∷ 0 ∷ 0 ∷ 0 ∷ 0 ∷ 0 ∷ [])) ≡ Err UnknownMagic
  pub slots_before_constants : image_in (codes "CELBPF01" ++ (0 ∷ 0 ∷ 0 ∷ 0 ∷ 1 ∷ 0 ∷ 0x10 ∷ 0 ∷ [])) ≡ Err BadSlotCount
  -- 65,536 slots and 1,048,576 bytes of constants are allowed
  pub most_slots : image_in (codes "CELBPF01" ++ (0 ∷ 0 ∷ 1 ∷ 0 ∷ 0 ∷ 0 ∷ 0 ∷ 0 ∷ [])) ≡ Err BadLength
  pub most_constants : image_in (codes "CELBPF01" ++ (1 ∷ 0 ∷ 0 ∷ 0 ∷ 0 ∷ 0 ∷ 0x10 ∷ 0 ∷ [])) ≡ Err BadLength
  pub one_byte_more : image_in (codes "CELBPF01" ++ (3 ∷ 0 ∷ 0 ∷ 0 ∷ 0 ∷ 0 ∷ 0 ∷ 0 ∷ (three_slots ++ 7 ∷ []))) ≡ Err BadLength
  pub with_constants : image_in (codes "CELBPF01" ++ (3 ∷ 0 ∷ 0 ∷ 0 ∷ 2 ∷ 0 ∷ 0 ∷ 0 ∷ (three_slots ++ 7 ∷ 9 ∷ [])))
      ≡ Ok (record { version = First; code = three_slots; constants = 7 ∷ 9 ∷ [] })
  pub file_with_constants : file_of (record { version = First; code = three_slots; constants = 7 ∷ 9 ∷ [] })
      ≡ codes "CELBPF01" ++ (3 ∷ 0 ∷ 0 ∷ 0 ∷ 2 ∷ 0 ∷ 0 ∷ 0 ∷ (three_slots ++ 7 ∷ 9 ∷ []))
  -- code and constants without a file
  pub made : image_from Second three_slots (7 ∷ []) ≡ Ok (record { version = Second; code = three_slots; constants = 7 ∷ [] })
  pub part_of_a_slot : image_from First (take 23 three_slots) [] ≡ Err BadLength
  pub part_of_a_slot_alone : image_from First (7 ∷ []) [] ≡ Err BadLength
  pub no_code : image_from First [] [] ≡ Err BadSlotCount
  pub no_slots_at_all : is_bad_count 0 ≡ true
  pub one_slot : is_bad_count 1 ≡ false
  pub all_slots : is_bad_count 65536 ≡ false
  pub past_all_slots : is_bad_count 65537 ≡ true
  pub no_constants : is_too_long 0 ≡ false
  pub all_constants : is_too_long 1048576 ≡ false
  pub past_all_constants : is_too_long 1048577 ≡ true

-- the code of each cause
pub record CodeRowsStand : Type 0 where
  pub short : load_error_code TooShort ≡ codes "L1"
  pub magic : load_error_code UnknownMagic ≡ codes "L2"
  pub slots : load_error_code BadSlotCount ≡ codes "L3"
  pub constants : load_error_code ConstantsTooLong ≡ codes "L4"
  pub length : load_error_code BadLength ≡ codes "L5"
  pub memory : load_error_code Memory ≡ codes "memory"
