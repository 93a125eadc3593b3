-- Scans of bytes and the characters of texts: characters are scalar values of Unicode (RFC 3629, section 3).
use Rattle.std.specs.Prelude.{◌≡◌, ℕ, List, length, encode_utf8_all}
use Rattle.std.specs.Ordering.{nat_cmp}
use Rattle.std.specs.Cmp.Lexicographic.{slice_cmp}
use Rattle.text_kernels.specs.Scans.{code_points_of}

-- the number of code points of a text is that of its characters
abbrev pub CountsCharacters : Type 0
CountsCharacters = (characters : List ℕ) → code_points_of (encode_utf8_all characters) ≡ length characters

-- the bytes of two texts are ordered as their characters are (RFC 3629, section 1)
abbrev pub OrdersAsCharacters : Type 0
OrdersAsCharacters = (left right : List ℕ) → slice_cmp nat_cmp (encode_utf8_all left) (encode_utf8_all right) ≡ slice_cmp nat_cmp left right
