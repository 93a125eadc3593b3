-- Loop invariants and measures of `listing` (src/lines.rt).
use Rattle.disassembler.proofs.Prelude.{◌≡◌, ℕ, ◌%◌, List, ◌++◌, length, string_bytes, Listing}
use Rattle.disassembler.proofs.lines.listing.Given as goal

-- any listing of the rest, appended to the text so far, is a listing of the code
abbrev pub invariant-statements : goal.invariant-statements
invariant-statements l = (length l.rest % 8 ≡ 0) × ((more : List ℕ) → Listing l.rest more → Listing l.code (string_bytes l.text ++ more))

abbrev pub decreases-statements : goal.decreases-statements
decreases-statements l = length l.rest
