-- Bytes that were read ahead.
use Rattle.std.specs.Prelude.{ℕ, List, ◌++◌, Option, Some, None}

-- what is left if these bytes were read from a source and are not consumed yet
abbrev pub buffered : List ℕ → Option (List ℕ) → Option (List ℕ)
buffered ready (Some left) = Some (ready ++ left)
buffered ready None = None
