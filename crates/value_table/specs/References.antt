-- Values by reference.
use Rattle.std.specs.Prelude.{◌≡◌, ◌<◌, ℕ, suc, zero, List, [], ◌∷◌, ◌++◌, length, slice_get, Option, Some, None}
use Rattle.value_store.specs.Value.{Value, ValueOrError, error, value}
use Rattle.value_store.specs.Placing.{first_values}
use Rattle.value_table.specs.Meaning.{value_in}
use Rattle.value_table.specs.Heaps.{AreBelow}
use Rattle.value_table.specs.Heap.{heap_values, IsHeap}
use Rattle.value_table.specs.declared.heap.Heap.{Heap}

-- the values at these places
abbrev pub values_at : List Value → List ℕ → List ValueOrError
values_at vs [] = []
values_at vs (r ∷ rs) = value (value_in vs r) ∷ values_at vs rs

-- the values of the references: the error at 0, then the values at these places
abbrev pub named : List Value → List ℕ → List ValueOrError
named vs rs = error ∷ values_at vs rs

-- the place of a reference's cell
abbrev pub place_at : List ℕ → ℕ → Option ℕ
place_at rs zero = None
place_at rs (suc h) = slice_get rs h

abbrev pub reference_values : Heap → List ℕ → List ValueOrError
reference_values h ps = named (heap_values h) ps

-- the first values are the error, null, false and true
pub record BeginsWithConstants (vs : List ValueOrError) : Type 0 where
  pub more : List ValueOrError
  pub is : vs ≡ first_values ++ more

-- these places belong to references, and each has a value in the heap
pub record AreReferences (h : Heap) (ps : List ℕ) : Type 0 where
  pub heap : IsHeap h
  pub places : AreBelow (length (heap_values h)) ps
  pub first : BeginsWithConstants (reference_values h ps)

-- the place of a reference's cell, and the value there
pub record IsPlace (h : Heap) (ps : List ℕ) (reference place : ℕ) : Type 0 where
  pub inside : place < length (heap_values h)
  pub value_is : slice_get (reference_values h ps) reference ≡ Some (value (value_in (heap_values h) place))
