-- The limits of a session's commands.
use Rattle.std.specs.Prelude.{ℕ}

-- the maximum number of bytes of a command line
abbrev pub line_limit : ℕ
line_limit = 64
