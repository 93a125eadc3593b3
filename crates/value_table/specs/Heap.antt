-- The values of a heap.
use Rattle.std.specs.Prelude.{◌≡◌, ◌≤◌, ℕ, ◌+◌, List, [], length, vec_capacity, Option, Some, option_map, slice_get, slice_index_or, Result}
use Rattle.std.specs.Prelude.{IfOk, IfSome, OnErr}
use Rattle.std.specs.declared.alloc.AllocError.{AllocError}
use Rattle.value_store.specs.Value.{Value}
use Rattle.value_table.specs.Meaning.{grown}
use Rattle.value_table.specs.Heaps.{AreCells, AreSame, AddsValue}
use Rattle.value_table.specs.declared.cell.Cell.{Cell}
use Rattle.value_table.specs.declared.content.Content.{Content}
use Rattle.value_table.specs.declared.content.Content.TheVariants as cell
use Rattle.value_table.specs.declared.heap.Heap.{Heap}

abbrev pub heap_values : Heap → List Value
heap_values h = grown h.backings [] h.cells

pub record IsHeap (h : Heap) : Type 0 where
  pub cells : AreCells h.backings [] h.cells
  pub same : AreSame (heap_values h) h.same.items
  -- there is capacity for a word of each cell, so that comparisons allocate nothing
  pub room : length h.cells ≤ vec_capacity h.same

-- the heap has the same cells, backings and words
pub record IsUnchangedHeap (old new : Heap) : Type 0 where
  pub cells : new.cells ≡ old.cells
  pub backings : new.backings ≡ old.backings
  pub words : new.same.items ≡ old.same.items

-- the value that is due is added, and the result is the place of its cell; or an allocation failed, and the heap is
-- unchanged
pub record Gains (old : Heap) (due : Option Value) (r : Result ℕ AllocError) (new : Heap) : Type 0 where
  pub heap : IsHeap new
  pub added : IfSome due (λ v. AddsValue (heap_values old) v r (heap_values new))
  pub kept : OnErr r (IsUnchangedHeap old new)

abbrev pub content_at : List Cell → ℕ → Option Content
content_at cs i = option_map (λ c. c.content) (slice_get cs i)

-- if the list at l ends where its backing ends, the longer list has the same backing, and no backing is added
abbrev pub SharesBacking : Heap → ℕ → Result ℕ AllocError → Heap → Type 0
SharesBacking old l r new =
    (b n : ℕ) → content_at old.cells l ≡ Some (cell.List b n) → n ≡ length (slice_index_or old.backings.lists b [])
    → IfOk r (λ i. (content_at new.cells i ≡ Some (cell.List b (n + 1))) × (length new.backings.lists ≡ length old.backings.lists))
