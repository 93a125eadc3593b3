-- A range is unchanged when what it lies in grows.
use Rattle.shared_lists.proofs.Prelude.{◌≡◌, ℕ, ◌≤◌, List, ◌++◌, length, take, drop, arith, length-drop, slice_range, take-append-le, drop-append-le}

pub range_kept : {A : Type 0} (xs rest : List A) (a b : ℕ) → a ≤ b → b ≤ length xs → slice_range (xs ++ rest) a b ≡ slice_range xs a b
range_kept xs rest a b le lt = grind (arith, take, drop-append-le, take-append-le, drop, length-drop)
