-- Pieces of code in an image.
use Rattle.std.specs.Prelude.{◌≡◌, ℕ, ◌+◌, ◌-◌, ◌*◌, ◌<◌, All, pos, List, [], ◌∷◌, ◌++◌, length, replicate, Option, Some, None, slice_get}
use Rattle.insn_codec.specs.Spelling.{spelling, slot_count, IsInsn}
use Rattle.insn_codec.specs.declared.insn.Insn.{Insn}
use Rattle.bpf_machine.specs.Decoding.{fetched}

-- the slots of an instruction; the second slot of a wide load begins none
abbrev pub insn_slots : Insn → List (Option Insn)
insn_slots i = Some i ∷ replicate (slot_count i - 1) None

-- the slots of a piece
abbrev pub slots : List Insn → List (Option Insn)
slots [] = []
slots (i ∷ is) = insn_slots i ++ slots is

-- the number of slots of a piece
abbrev pub size : List Insn → ℕ
size piece = length (slots piece)

-- the bytes of a piece's encoding
abbrev pub spellings : List Insn → List ℕ
spellings [] = []
spellings (i ∷ is) = spelling i ++ spellings is

-- the numbers of each instruction are in range
abbrev pub AreInsns : List Insn → Type 0
AreInsns [] = Unit {0}
AreInsns (i ∷ is) = IsInsn i × AreInsns is

-- the machine finds the piece's instructions from slot p on
pub record IsCodeAt (code : List ℕ) (p : ℕ) (piece : List Insn) : Type 0 where
  pub here : (k : ℕ) (i : Insn) → slice_get (slots piece) k ≡ Some (Some i) → fetched code (pos (p + k)) ≡ Some (Some i)

-- where the bytes of a piece's encoding are, the machine finds the piece
abbrev pub SpelledStands : Type 0
SpelledStands = (before after : List ℕ) (piece : List Insn) (p : ℕ) → length before ≡ 8 * p
    → All (λ b. b < 256) (before ++ (spellings piece ++ after)) → AreInsns piece → IsCodeAt (before ++ (spellings piece ++ after)) p piece
