-- The lines of code that a session lists.
use Rattle.std.specs.Prelude.{◌≡◌, ℕ, zero, suc, ◌+◌, ◌*◌, ◌<◌, Option, Some, None, Bool, false, ℤ, pos, negsuc, List, [], ◌∷◌, ◌++◌, codes}
use Rattle.std.specs.Prelude.{decimal, drop, nat_lt, if◌then◌else◌}
use Rattle.std.specs.Fmt.{signed_decimal}
use Rattle.insn_codec.specs.declared.statement.Statement.{Statement}
use Rattle.insn_codec.specs.Statements.{statement_of, statement_slots, statement_text}
use Rattle.bpf_machine.specs.Decoding.{slot_count}
use Rattle.bpf_machine.specs.State.{State}

-- the statement in the code from this slot on
abbrev pub statement_at : List ℕ → ℕ → Statement
statement_at code slot = statement_of (drop (8 * slot) code)

-- the number of a slot, and the line of the statement there
unfoldable pub listing_line : List ℕ → ℕ → List ℕ
listing_line code slot = decimal slot ++ (codes " " ++ (statement_text (statement_at code slot) ++ 10 ∷ []))

-- at most `count` lines, one for this slot and each next one for the slot after the
-- previous statement, up to the end of the code
unfoldable pub listing_lines : ℕ → List ℕ → ℕ → List ℕ
listing_lines zero code slot = []
listing_lines (suc count) code slot =
    if nat_lt slot (slot_count code)
    then listing_line code slot ++ listing_lines count code (slot + statement_slots (statement_at code slot))
    else []

-- whether `pc` is a slot of the code
abbrev pub is_inside : List ℕ → ℤ → Bool
is_inside code (pos slot) = nat_lt slot (slot_count code)
is_inside code (negsuc n) = false

-- the slot of `pc`, or none if the code has no slot there
abbrev pub IsPlaced : List ℕ → ℤ → Option ℕ → Type 0
IsPlaced code pc (Some slot) = (pc ≡ pos slot) × (slot < slot_count code)
IsPlaced code pc None = is_inside code pc ≡ false

-- the line for a `pc` outside the code
unfoldable pub outside_line : ℤ → List ℕ
outside_line pc = signed_decimal pc ++ codes " outside\n"

-- eight lines of this code from `pc` on, or that `pc` is outside
abbrev pub listing_at : List ℕ → ℤ → List ℕ
listing_at code (pos slot) = if is_inside code (pos slot) then listing_lines 8 code slot else outside_line (pos slot)
listing_at code (negsuc n) = outside_line (negsuc n)

-- the lines that a session lists in a state
abbrev pub listing_text : State → List ℕ
listing_text s = listing_at s.image.code s.pc
