-- Lines of code that are listed one by one.
use Rattle.debugger.proofs.Prelude.{◌≡◌, ℕ, ◌+◌, ◌-◌, ◌<◌, ◌≤◌, List, [], ◌++◌, append_assoc, append-nil, arith, statement_slots, slot_count, listing_line, listing_lines, statement_at}

pub listed_none : (count slot : ℕ) (code : List ℕ) → count ≡ 0 → listing_lines count code slot ≡ []
unfolding listing_lines
listed_none count slot code none = grind arith

pub listed_beyond : (count slot : ℕ) (code : List ℕ) → slot_count code ≤ slot → listing_lines count code slot ≡ []
unfolding listing_lines
listed_beyond count slot code out = grind arith

pub listed_more : (count slot : ℕ) (code : List ℕ) → 0 < count → slot < slot_count code
    → listing_lines count code slot ≡ listing_line code slot ++ listing_lines (count - 1) code (slot + statement_slots (statement_at code slot))
unfolding listing_lines
listed_more count slot code some inside = grind arith

-- the lines that are still to be listed
pub ruleset listed = (listed_none, listed_beyond, listed_more, append_assoc, append-nil)
