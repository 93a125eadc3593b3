-- The values that a table starts with.
use Rattle.std.specs.Prelude.{◌≡◌, ℕ, List, false}
use Rattle.serde_json.specs.Data as json
use Rattle.value_store.specs.Value.{ValueOrError}
use Rattle.value_store.specs.Keys.{IsOrdered}
use Rattle.value_store.specs.Roots.{has_other}
use Rattle.value_store.specs.Plain.{plain_value}
use Rattle.value_table.specs.References.{reference_values, AreReferences}
use Rattle.value_table.specs.declared.heap.Heap.{Heap}

-- references to these values
pub record StartsWithValues (h : Heap) (ps : List ℕ) (vs : List ValueOrError) : Type 0 where
  pub sound : AreReferences h ps
  pub values : reference_values h ps ≡ vs

-- a document whose numbers are 64-bit signed integers, and whose objects have their keys in order
abbrev pub IsWelcome : json.Data → Type 0
IsWelcome d = (has_other d ≡ false) × IsOrdered (plain_value d)
