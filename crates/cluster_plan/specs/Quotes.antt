-- Texts in Go's quotes.
use Rattle.std.specs.Prelude.{ℕ, ◌==◌, List, [], ◌∷◌, ◌++◌, codes, encode_utf8, if◌then◌else◌}
use Rattle.std.specs.List.{flat_map}
use Rattle.std.specs.Str.{chars}

-- a character as Go quotes it: a backslash is before a quote or a backslash (strconv.Quote, of printable characters)
abbrev pub go_escape : ℕ → List ℕ
go_escape c = if c == 34 then codes "\\\"" else (if c == 92 then codes "\\\\" else encode_utf8 c)

-- a text in Go's quotes
abbrev pub go_quoted : List ℕ → List ℕ
go_quoted t = 34 ∷ (flat_map go_escape (chars t) ++ 34 ∷ [])
