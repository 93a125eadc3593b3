-- Cells whose parts are at earlier places.
use Rattle.std.specs.Prelude.{◌≡◌, ◌≤◌, ◌<◌, ℕ, ◌+◌, List, [], ◌∷◌, ◌++◌, length, slice_index_or, slice_get, Result, Ok, Err, ⊤}
use Rattle.std.specs.declared.alloc.AllocError.{AllocError}
use Rattle.value_store.specs.Value.{Value}
use Rattle.value_store.specs.Size.{depth_of}
use Rattle.value_store.specs.Keys.{IsOrdered}
use Rattle.value_table.specs.Meaning.{value_in, refs_at, keys_at, meaning}
use Rattle.value_table.specs.Lengths.{json_length}
pub use Rattle.value_backings.specs.Stored.{IsText, ExtendsBackings, HoldsItems}
use Rattle.value_backings.specs.declared.part.Part.{Part}
use Rattle.value_table.specs.declared.content.Content.{Content}
use Rattle.value_table.specs.declared.content.Content.TheVariants as cell
use Rattle.value_table.specs.declared.cell.Cell.{Cell}
use Rattle.value_backings.specs.declared.backings.Backings.{Backings}

abbrev pub AreTexts : List ℕ → List Part → Type 0
AreTexts bytes [] = ⊤
AreTexts bytes (k ∷ ks) = IsText bytes k × AreTexts bytes ks

-- each place is below i
abbrev pub AreBelow : ℕ → List ℕ → Type 0
AreBelow i [] = ⊤
AreBelow i (r ∷ rs) = (r < i) × AreBelow i rs

-- the first n items of backing b are places below i
pub record IsRange (lists : List (List ℕ)) (i b n : ℕ) : Type 0 where
  pub inside : b < length lists
  pub long : n ≤ length (slice_index_or lists b [])
  pub below : AreBelow i (refs_at lists b n)

-- n keys from place k on
pub record AreKeys (bytes : List ℕ) (keys : List Part) (k n : ℕ) : Type 0 where
  pub inside : k + n ≤ length keys
  pub texts : AreTexts bytes (keys_at keys k n)

-- the parts of the cell at place i are at earlier places
abbrev pub IsContent : Backings → ℕ → Content → Type 0
IsContent bs i cell.Null = ⊤
IsContent bs i (cell.Bool b) = ⊤
IsContent bs i (cell.Int n) = ⊤
IsContent bs i (cell.Text p) = IsText bs.bytes p
IsContent bs i (cell.List b n) = IsRange bs.lists i b n
IsContent bs i (cell.Map k b n) = IsRange bs.lists i b n × AreKeys bs.bytes bs.keys k n

-- a cell that can follow these values
pub record IsCell (bs : Backings) (vs : List Value) (c : Cell) : Type 0 where
  pub content : IsContent bs (length vs) c.content
  pub depth : c.depth ≡ depth_of (meaning bs vs c.content)
  pub shallow : c.depth ≤ length vs + 1
  pub json : c.json ≡ json_length (meaning bs vs c.content)
  pub ordered : IsOrdered (meaning bs vs c.content)

abbrev pub AreCells : Backings → List Value → List Cell → Type 0
AreCells bs vs [] = ⊤
AreCells bs vs (c ∷ cs) = IsCell bs vs c × AreCells bs (vs ++ meaning bs vs c.content ∷ []) cs

-- facts about the cell at a place
pub record CellFound (bs : Backings) (vs : List Value) (r : ℕ) (c : Cell) : Type 0 where
  pub inside : r < length vs
  pub is : value_in vs r ≡ meaning bs vs c.content
  pub content : IsContent bs r c.content
  pub depth : c.depth ≡ depth_of (meaning bs vs c.content)
  pub shallow : c.depth ≤ r + 1
  pub json : c.json ≡ json_length (meaning bs vs c.content)
  pub ordered : IsOrdered (meaning bs vs c.content)

-- each place has the same value as the place that represents it, which is itself or an earlier one
pub record AreSame (vs : List Value) (same : List ℕ) : Type 0 where
  pub long : length same ≤ length vs
  pub below : (i d : ℕ) → i < length same → slice_index_or same i d ≤ i
  pub equal : (i d : ℕ) → i < length same → slice_get vs (slice_index_or same i d) ≡ slice_get vs i

-- one more value, and the place of its cell; or an allocation failed, and the values are unchanged
abbrev pub AddsValue : List Value → Value → Result ℕ AllocError → List Value → Type 0
AddsValue old v (Ok i) new = (i ≡ length old) × (new ≡ old ++ v ∷ [])
AddsValue old v (Err e) new = new ≡ old
