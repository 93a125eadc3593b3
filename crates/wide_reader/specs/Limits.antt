-- The limit of nesting.
use Rattle.std.specs.Prelude.{ℕ}

-- the maximum number of open brackets and conditionals
abbrev pub open_limit : ℕ
open_limit = 100
