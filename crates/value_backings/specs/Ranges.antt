-- Ranges of backings, which may have grown since the ranges were stored.
use Rattle.std.specs.Prelude.{ℕ, ◌+◌, List, slice_range}
pub use Rattle.shared_lists.specs.Items.{refs_at, with_one}
use Rattle.value_backings.specs.declared.part.Part.{Part}

abbrev pub part_of : List ℕ → Part → List ℕ
part_of bytes p = slice_range bytes p.from p.to

-- n adjacent keys
abbrev pub keys_at : List Part → ℕ → ℕ → List Part
keys_at keys k n = slice_range keys k (k + n)
