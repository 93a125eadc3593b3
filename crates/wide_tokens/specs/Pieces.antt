-- The pieces of a text literal as the code represents them.
use Rattle.std.specs.Prelude.{ℕ, ◌+◌, List, [], ◌∷◌, encode_utf8}
use Rattle.wide_tokens.specs.declared.content.Piece.{Piece, TheVariants.Byte, TheVariants.Escape}

-- the length of a piece in bytes, and its value
abbrev pub said_by : Piece → ℕ × List ℕ
said_by (Byte b) = (1, b ∷ [])
said_by (Escape code len) = (len + 1, encode_utf8 code)
