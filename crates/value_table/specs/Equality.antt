-- Comparisons: what they rely on, their result and their effect.
use Rattle.std.specs.Prelude.{◌≡◌, ℕ, ◌<◌, ◌≤◌, min, List, length, Option, Some, None, slice_get, slice_index_or, Bool, true, Decides}
use Rattle.value_store.specs.Value.{Value}
use Rattle.value_table.specs.Meaning.{meaning}
use Rattle.value_table.specs.Heaps.{IsContent, AreSame}
use Rattle.value_table.specs.declared.cell.Cell.{Cell}
use Rattle.value_backings.specs.declared.backings.Backings.{Backings}

-- the parts of each cell are at earlier places
abbrev pub AreContents : Backings → List Cell → Type 0
AreContents bs cs = (r : ℕ) (c : Cell) → slice_get cs r ≡ Some c → IsContent bs r c.content

-- the values at the places are the meanings of the cells
abbrev pub AreMeanings : Backings → List Value → List Cell → Type 0
AreMeanings bs vs cs = (r : ℕ) (c : Cell) → slice_get cs r ≡ Some c → slice_get vs r ≡ Some (meaning bs vs c.content)

-- ---- words that lead each place to one with an equal value

-- the parent of a place, or the place itself
abbrev pub way_down : Option ℕ → ℕ → ℕ
way_down (Some next) place = min next place
way_down None place = place

abbrev pub LeadDown : List ℕ → Type 0
LeadDown same = (i d : ℕ) → i < length same → slice_index_or same i d ≤ i

-- the place is its own parent
abbrev pub IsRoot : List ℕ → ℕ → Type 0
IsRoot same i = (d : ℕ) → i < length same → slice_index_or same i d ≡ i

-- two places are in one class if they have equal values in all lists of values that the words describe
abbrev pub AreOneClass : List ℕ → ℕ → ℕ → Type 0
AreOneClass same a b = (vs : List Value) → AreSame vs same → slice_get vs a ≡ slice_get vs b

-- the words that describe the new classes describe the old ones too
abbrev pub ClassesStay : List ℕ → List ℕ → Type 0
ClassesStay old new = (vs : List Value) → AreSame vs new → AreSame vs old

-- the path from a place is shortened
pub record Shortens (old new : List ℕ) (place : ℕ) : Type 0 where
  pub down : LeadDown new
  pub stay : ClassesStay old new
  pub roots : (i : ℕ) → IsRoot old i → IsRoot new i
  pub others : (i d : ℕ) → place < i → slice_index_or new i d ≡ slice_index_or old i d

-- the path is shortened and ends at this root
pub record Finds (old new : List ℕ) (place root : ℕ) : Type 0 where
  pub shorter : Shortens old new place
  pub ends : IsRoot new root

-- The result is whether the values at a and b are equal. The words stay right. If they are equal and each of `count`
-- cells has its word, a and b are in one class afterwards.
pub record Compares (vs : List Value) (count : ℕ) (old new : List ℕ) (a b : ℕ) (answer : Bool) : Type 0 where
  pub known : AreSame vs new
  pub right : Decides answer (slice_get vs a ≡ slice_get vs b)
  pub stay : ClassesStay old new
  pub others : (i d : ℕ) → a < i → b < i → slice_index_or new i d ≡ slice_index_or old i d
  pub one : answer ≡ true → count ≤ length old → AreOneClass new a b
