-- The measure of a value before its cell is added.
use Rattle.std.specs.Prelude.{◌≡◌, ◌≤◌, ℕ, ◌+◌}
use Rattle.value_store.specs.Value.{Value}
use Rattle.value_store.specs.Size.{depth_of}
use Rattle.value_table.specs.Lengths.{json_length}
use Rattle.value_table.specs.declared.measure.Measure.{Measure}

-- the depth and the length of a value whose parts are below place i
pub record IsMeasure (i : ℕ) (v : Value) (m : Measure) : Type 0 where
  pub depth : m.depth ≡ depth_of v
  pub shallow : m.depth ≤ i + 1
  pub json : m.json ≡ json_length v
