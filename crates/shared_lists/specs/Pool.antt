-- The items of rows. A row has a vector of its own, or a range of the pool.
use Rattle.std.specs.Prelude.{ℕ, ◌+◌, ◌≤◌, List, length, map, slice_range, ⊤}
use Rattle.std.specs.List.{AllByRecursion}
use Rattle.shared_lists.specs.declared.row.Row.{Row}
use Rattle.shared_lists.specs.declared.row.Row.TheVariants as row

abbrev pub row_items : List ℕ → Row → List ℕ
row_items pool (row.Own items) = items
row_items pool (row.Pooled from count) = slice_range pool from (from + count)

abbrev pub rows_items : List ℕ → List Row → List (List ℕ)
rows_items pool rows = map (row_items pool) rows

-- the row's range lies within the pool
abbrev pub IsPoolRow : List ℕ → Row → Type 0
IsPoolRow pool (row.Own items) = ⊤
IsPoolRow pool (row.Pooled from count) = from + count ≤ length pool

abbrev pub AreRows : List ℕ → List Row → Type 0
AreRows pool rows = AllByRecursion (IsPoolRow pool) rows
