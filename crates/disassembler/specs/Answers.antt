-- Results of `listing` and `line_at`.
use Rattle.std.specs.Prelude.{◌≡◌, ℕ, ◌*◌, ◌/◌, ◌%◌, List, length, drop, Option, Some, None, Result, Ok, Err, String, string_bytes}
use Rattle.std.specs.Prelude.{if◌then◌else◌, ◌==◌, nat_lt, not}
use Rattle.std.specs.Global.{Global}
use Rattle.insn_codec.specs.Limits.{slot_limit}
use Rattle.disassembler.specs.declared.dis_error.DisError.{DisError, TheVariants.PartialSlot, TheVariants.CodeTooLong, TheVariants.Memory}
use Rattle.insn_codec.specs.Statements.{Listing, statement_of, statement_slots, statement_text}

-- why code has no listing: its length is not a whole number of slots, else it has more than 65,536
abbrev pub refusal_of : List ℕ → Option DisError
refusal_of code =
    if not (length code % 8 == 0) then Some PartialSlot
    else (if nat_lt slot_limit (length code / 8) then Some CodeTooLong
    else None)

-- the error is the code's refusal; an allocation may fail only if there is none
abbrev pub ListingFails : List ℕ → DisError → Type 0
ListingFails code PartialSlot = refusal_of code ≡ Some PartialSlot
ListingFails code CodeTooLong = refusal_of code ≡ Some CodeTooLong
ListingFails code Memory = refusal_of code ≡ None

-- the result is the code's listing, or why there is none
abbrev pub GivesListing : List ℕ → Result (String Global) DisError → Type 0
GivesListing code (Ok text) = (refusal_of code ≡ None) × Listing code (string_bytes text)
GivesListing code (Err error) = ListingFails code error

-- the result is the line of the statement at this slot of the code, with the number
-- of its slots, or why there is no listing
abbrev pub GivesLine : List ℕ → ℕ → Result (String Global × ℕ) DisError → Type 0
GivesLine code slot (Ok line) =
    (refusal_of code ≡ None)
    × (string_bytes line.0 ≡ statement_text (statement_of (drop (8 * slot) code)))
    × (line.1 ≡ statement_slots (statement_of (drop (8 * slot) code)))
GivesLine code slot (Err error) = ListingFails code error
