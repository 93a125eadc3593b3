-- Cells whose values are known.
use Rattle.std.specs.Prelude.{◌≡◌, ℕ, List, Some, slice_get}
use Rattle.value_store.specs.Value.{Value}
use Rattle.value_table.specs.Meaning.{value_in}
use Rattle.value_table.specs.Lengths.{json_length}
use Rattle.value_table.specs.Equality.{AreMeanings}
use Rattle.value_table.specs.declared.cell.Cell.{Cell}
use Rattle.value_backings.specs.declared.backings.Backings.{Backings}

-- the values are the meanings of the cells, which have the lengths of their JSON texts
pub record AreKnown (bs : Backings) (vs : List Value) (cs : List Cell) : Type 0 where
  pub meanings : AreMeanings bs vs cs
  pub lengths : (r : ℕ) (c : Cell) → slice_get cs r ≡ Some c → c.json ≡ json_length (value_in vs r)
