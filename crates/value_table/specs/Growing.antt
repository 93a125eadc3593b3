-- Values that are added after others, and the place of one.
use Rattle.std.specs.Prelude.{◌≡◌, ◌<◌, ℕ, List, ◌++◌, length, Result, IfOk}
use Rattle.std.specs.declared.alloc.AllocError.{AllocError}
use Rattle.value_store.specs.Value.{Value}
use Rattle.value_table.specs.Meaning.{value_in}
use Rattle.value_table.specs.Heap.{heap_values, IsHeap}
use Rattle.value_table.specs.declared.heap.Heap.{Heap}

abbrev pub HasGrown : List Value → List Value → Type 0
HasGrown old new = (more : List Value) × (new ≡ old ++ more)

pub record IsValueAt (vs : List Value) (r : ℕ) (v : Value) : Type 0 where
  pub inside : r < length vs
  pub is : value_in vs r ≡ v

-- values are added, and v is among them; or an allocation failed before all of them were added
pub record Enters (old : Heap) (v : Value) (r : Result ℕ AllocError) (new : Heap) : Type 0 where
  pub heap : IsHeap new
  pub grown : HasGrown (heap_values old) (heap_values new)
  pub value : IfOk r (λ i. IsValueAt (heap_values new) i v)
