-- Listings of code, byte by byte, worked out by hand.
use Rattle.std.specs.Prelude.{◌≡◌, [], ◌∷◌, ◌++◌, codes, drop}
use Rattle.insn_codec.specs.Statements.{Listing, statement_of, statement_text}

-- listings of code, byte by byte
pub record ListingRowsHold : Type 0 where
  pub no_code : Listing [] []
  pub mov_and_exit : Listing (0xb7 ∷ 0 ∷ 0 ∷ 0 ∷ 5 ∷ 0 ∷ 0 ∷ 0 ∷ 0x95 ∷ 0 ∷ 0 ∷ 0 ∷ 0 ∷ 0 ∷ 0 ∷ 0 ∷ [])
      (codes "mov64 r0, 5" ++ 10 ∷ (codes "exit" ++ 10 ∷ []))
  -- `be32 r1`, `stxdw`, `stb` and a negative immediate, written as on the assembler's page
  pub byte_order : Listing (0xdc ∷ 1 ∷ 0 ∷ 0 ∷ 32 ∷ 0 ∷ 0 ∷ 0 ∷ []) (codes "be32 r1" ++ 10 ∷ [])
  pub store : Listing (0x7b ∷ 0x21 ∷ 0xf8 ∷ 7 ∷ 0 ∷ 0 ∷ 0 ∷ 0 ∷ []) (codes "stxdw [r1+2040], r2" ++ 10 ∷ [])
  pub store_of_an_immediate : Listing (0x72 ∷ 5 ∷ 0xff ∷ 0x7f ∷ 0 ∷ 0 ∷ 0 ∷ 0 ∷ []) (codes "stb [r5+32767], 0" ++ 10 ∷ [])
  pub load_below : Listing (0x61 ∷ 0xa0 ∷ 0xfc ∷ 0xff ∷ 0 ∷ 0 ∷ 0 ∷ 0 ∷ []) (codes "ldxw r0, [r10-4]" ++ 10 ∷ [])
  pub negative_immediate : Listing (0xb4 ∷ 0 ∷ 0 ∷ 0 ∷ 0xff ∷ 0xff ∷ 0xff ∷ 0xff ∷ []) (codes "mov32 r0, -1" ++ 10 ∷ [])
  -- the first half of a wide load encodes no instruction
  pub half_a_wide_load : Listing (0x18 ∷ 0 ∷ 0 ∷ 0 ∷ 0 ∷ 0 ∷ 0 ∷ 0 ∷ []) (codes ".slot 0x1800000000000000" ++ 10 ∷ [])
  pub jump_into_a_wide_load : Listing
      (0x05 ∷ 0 ∷ 1 ∷ 0 ∷ 0 ∷ 0 ∷ 0 ∷ 0 ∷ 0x18 ∷ 0 ∷ 0 ∷ 0 ∷ 5 ∷ 0 ∷ 0 ∷ 0 ∷ 0 ∷ 0 ∷ 0 ∷ 0 ∷ 0 ∷ 0 ∷ 0 ∷ 0 ∷ 0x95 ∷ 0 ∷ 0 ∷ 0 ∷ 0 ∷ 0 ∷ 0
      ∷ 0 ∷ [])
      (codes "ja +1" ++ 10 ∷ (codes "lddw r0, 0x0000000000000005" ++ 10 ∷ (codes "exit" ++ 10 ∷ [])))
  -- the line at the second slot of a wide load
  pub inside_a_wide_load : statement_text
      (statement_of
      (drop 16
      (0x05 ∷ 0 ∷ 1 ∷ 0 ∷ 0 ∷ 0 ∷ 0 ∷ 0 ∷ 0x18 ∷ 0 ∷ 0 ∷ 0 ∷ 5 ∷ 0 ∷ 0 ∷ 0 ∷ 0 ∷ 0 ∷ 0 ∷ 0 ∷ 0 ∷ 0 ∷ 0 ∷ 0 ∷ 0x95 ∷ 0 ∷ 0 ∷ 0
      ∷ 0 ∷ 0 ∷ 0 ∷ 0 ∷ [])))
      ≡ codes ".slot 0x0000000000000000"
