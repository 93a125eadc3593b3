-- Classes of code points, and runs of them.
use Rattle.std.specs.Prelude.{ℕ, List, [], ◌∷◌, Bool, false, ◌||◌, ◌==◌}
use Rattle.std.specs.List.{prefix_len}
use Rattle.std.specs.Char.{is_ascii_digit, is_ascii_alphanumeric}

-- [0-9A-Za-z_]
abbrev pub is_word : ℕ → Bool
is_word c = is_ascii_alphanumeric c || (c == 95)

-- the number of word characters at the front
abbrev pub word_len : List ℕ → ℕ
word_len points = prefix_len is_word points

-- the number of digits at the front
abbrev pub digits_len : List ℕ → ℕ
digits_len points = prefix_len is_ascii_digit points

-- this code point is at the front
abbrev pub begins_with : ℕ → List ℕ → Bool
begins_with c [] = false
begins_with c (first ∷ points) = first == c
