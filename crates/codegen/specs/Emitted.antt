-- The contents of an emitter.
use Rattle.std.specs.Prelude.{◌≡◌, ℕ, ◌+◌, ◌⊎◌, Bool, true, false, List, [], ◌∷◌, ◌++◌, length, Option, Some, None, ◌*◌, ◌<◌, slice_set}
use Rattle.expression_code.specs.Limits.{slots_per_node}
use Rattle.insn_codec.specs.Spelling.{spelling}
use Rattle.insn_codec.specs.declared.insn.Insn.{Insn}
use Rattle.cel_measures.specs.Saturated.{saturated}
use Rattle.insn_codec.specs.Limits.{slot_limit}
use Rattle.loader.specs.Limits.{constants_limit}
use Rattle.tree_code.specs.Constants.{joined}
use Rattle.expression_code.specs.Pieces.{slots}

-- the instruction that begins at each slot of the code, the texts that the code uses, the number of nodes it comes
-- from, the slots of the variables' routines, in order, and whether code was left out because there was no room for it
pub record Emitted : Type 0 where
  pub code : List (Option Insn)
  pub constants : List (List ℕ)
  pub nodes : ℕ
  pub routines : List ℕ
  pub lacks_code : Bool

-- an empty emitter
abbrev pub no_code : Emitted
no_code = record { code = []; constants = []; nodes = 0; routines = []; lacks_code = false }

-- a piece is appended
abbrev pub with_piece : Emitted → List Insn → Emitted
with_piece e piece = record e { code = e.code ++ slots piece }

-- an instruction is replaced
abbrev pub with_insn_at : Emitted → ℕ → Insn → Emitted
with_insn_at e slot i = record e { code = slice_set e.code slot (Some i) }

-- n more nodes; the number is capped at 2^64 - 1
abbrev pub with_nodes : Emitted → ℕ → Emitted
with_nodes e n = record e { nodes = saturated (e.nodes + n) }

-- code is left out
abbrev pub without_code : Emitted → Emitted
without_code e = record e { lacks_code = true }

-- the bytes of the instructions at these slots
abbrev pub slot_spellings : List (Option Insn) → List ℕ
slot_spellings [] = []
slot_spellings (Some i ∷ more) = spelling i ++ slot_spellings more
slot_spellings (None ∷ more) = slot_spellings more

-- the nodes may have more code than an image has slots, 128 for each and above 65,536, or code was left out
abbrev pub IsTooLong : Emitted → Type 0
IsTooLong e = (slot_limit < slots_per_node * e.nodes) ⊎ (e.lacks_code ≡ true)

-- the texts have more bytes than the constants of an image may have
abbrev pub HasTooManyTexts : Emitted → Type 0
HasTooManyTexts e = constants_limit < length (joined e.constants)
