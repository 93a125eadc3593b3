-- The slots with a breakpoint, in ascending order without duplicates.
use Rattle.std.specs.Prelude.{◌≡◌, ℕ, Bool, true, not, ◌||◌, ◌&&◌, List, [], ◌∷◌, filter, insert, nat_eq, nat_lt, if◌then◌else◌}
use Rattle.std.specs.List.{list_all, list_any, prefix_len}

-- whether the slot has a breakpoint
abbrev pub has_breakpoint : ℕ → List ℕ → Bool
has_breakpoint slot slots = list_any (λ s. nat_eq s slot) slots

-- the number of slots before the position of this one
abbrev pub place_of : ℕ → List ℕ → ℕ
place_of slot slots = prefix_len (λ s. nat_lt s slot) slots

-- the breakpoints with one at this slot
abbrev pub with_breakpoint : ℕ → List ℕ → List ℕ
with_breakpoint slot slots = if has_breakpoint slot slots then slots else insert slots (place_of slot slots) slot

-- the breakpoints without one at this slot
abbrev pub without_breakpoint : ℕ → List ℕ → List ℕ
without_breakpoint slot slots = filter (λ s. not (nat_eq s slot)) slots

-- whether each slot is less than those after it
abbrev pub in_order : List ℕ → Bool
in_order [] = true
in_order (s ∷ slots) = list_all (nat_lt s) slots && in_order slots

-- setting and clearing a breakpoint affects only this slot, and keeps the order
pub record SetsAndClears : Type 0 where
  pub set : (slot other : ℕ) (slots : List ℕ)
      → has_breakpoint other (with_breakpoint slot slots) ≡ nat_eq slot other || has_breakpoint other slots
  pub cleared : (slot other : ℕ) (slots : List ℕ)
      → has_breakpoint other (without_breakpoint slot slots) ≡ not (nat_eq slot other) && has_breakpoint other slots
  pub set_in_order : (slot : ℕ) (slots : List ℕ) → in_order slots ≡ true → in_order (with_breakpoint slot slots) ≡ true
  pub cleared_in_order : (slot : ℕ) (slots : List ℕ) → in_order slots ≡ true → in_order (without_breakpoint slot slots) ≡ true
