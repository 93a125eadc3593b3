-- Letters of ASCII, and white space at the ends of texts (cel-go, ext/strings.go).
use Rattle.std.specs.Prelude.{ℕ, List, map}
use Rattle.std.specs.Char.{to_ascii_lowercase, to_ascii_uppercase}
use Rattle.std.specs.Str.{chars, encode_utf8_all, trim}

-- the text in UTF-8 whose code points are those of a text, changed by f
abbrev pub by_code_points : (List ℕ → List ℕ) → List ℕ → List ℕ
by_code_points f text = encode_utf8_all (f (chars text))

-- A to Z in lower case
abbrev pub lower_ascii : List ℕ → List ℕ
lower_ascii text = by_code_points (map to_ascii_lowercase) text

-- a to z in upper case
abbrev pub upper_ascii : List ℕ → List ℕ
upper_ascii text = by_code_points (map to_ascii_uppercase) text

-- without the code points that are White_Space in Unicode at both ends
abbrev pub trim_of : List ℕ → List ℕ
trim_of text = trim text
