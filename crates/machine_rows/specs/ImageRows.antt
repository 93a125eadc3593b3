-- Image files and code, by hand from the layout of an image: the magic, the number of slots and the number of bytes of
-- constants in four bytes each, and then code and constants.
use Rattle.std.specs.Prelude.{◌≡◌, [], ◌∷◌, ◌++◌, Ok, Err, Some, None, codes, replicate}
use Rattle.disassembler.specs.Answers.{ListingFails, refusal_of}
use Rattle.disassembler.specs.declared.dis_error.DisError.TheVariants as listing
use Rattle.loader.specs.Format.{file_of, image_from}
use Rattle.loader.specs.declared.load_error.LoadError.TheVariants.{BadLength, BadSlotCount, ConstantsTooLong}
use Rattle.loader.specs.declared.version.Version.TheVariants.{First}

-- files with as many slots as their code has bytes divided by 8, and code and constants that make no image
pub record ImageRowsHold : Type 0 where
  pub seven_slots : file_of (record { version = First; code = replicate 56 0; constants = 9 ∷ [] })
      ≡ codes "CELBPF01" ++ (7 ∷ 0 ∷ 0 ∷ 0 ∷ 1 ∷ 0 ∷ 0 ∷ 0 ∷ (replicate 56 0 ++ 9 ∷ []))
  pub one_slot : image_from First (replicate 8 0) [] ≡ Ok (record { version = First; code = replicate 8 0; constants = [] })
  -- a part of a slot is seen before the constants are, and so is code without slots
  pub part_of_a_slot : image_from First (1 ∷ []) (replicate 1048577 0) ≡ Err BadLength
  pub no_slot : image_from First [] (replicate 1048577 0) ≡ Err BadSlotCount
  pub long_constants : image_from First (replicate 8 0) (replicate 1048577 0) ≡ Err ConstantsTooLong
  -- 57,345 slots, which are more than 65,536 times 7 bytes
  pub many_slots : image_from First (replicate 458760 0) [] ≡ Ok (record { version = First; code = replicate 458760 0; constants = [] })

-- code without a listing: a part of a slot, which is seen first, or more than 65,536 slots
pub record CodeListingsHold : Type 0 where
  pub no_code : refusal_of [] ≡ None
  pub one_slot : refusal_of (replicate 8 0) ≡ None
  pub seven_bytes : refusal_of (replicate 7 0) ≡ Some listing.PartialSlot
  pub nine_bytes : refusal_of (replicate 9 0) ≡ Some listing.PartialSlot
  pub most_slots : refusal_of (replicate 524288 0) ≡ None
  pub many_slots : refusal_of (replicate 524296 0) ≡ Some listing.CodeTooLong
  pub many_slots_and_a_part : refusal_of (replicate 524297 0) ≡ Some listing.PartialSlot
  pub fails_by_a_part : ListingFails (replicate 9 0) listing.PartialSlot
  pub fails_by_no_part : ListingFails (replicate 8 0) listing.PartialSlot → ⊥
  pub fails_by_length : ListingFails (replicate 524296 0) listing.CodeTooLong
  pub fails_by_no_length : ListingFails (replicate 8 0) listing.CodeTooLong → ⊥
  pub fails_for_memory : ListingFails (replicate 8 0) listing.Memory
  pub fails_for_no_memory : ListingFails (replicate 9 0) listing.Memory → ⊥
