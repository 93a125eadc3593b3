-- Parts of texts by the places of code points (cel-go, ext/strings.go).
use Rattle.std.specs.Prelude.{ℕ, ◌-◌, ℤ, pos, negsuc, min, List, length, take, drop, ◌&&◌, nat_le, nat_lt, Option, Some, None}
use Rattle.std.specs.Prelude.{option_and_then, option_map, if◌then◌else◌, encode_utf8_all}
use Rattle.std.specs.Str.{chars}
use Rattle.text_functions.specs.Places.{first_place, last_place}

-- a place, if it is not negative
abbrev pub natural : ℤ → Option ℕ
natural (pos n) = Some n
natural (negsuc _) = None

-- the code points from place i up to place j, if i ≤ j and j is at most the size
abbrev pub from_to : ℕ → ℕ → List ℕ → Option (List ℕ)
from_to i j cs = if nat_le i j && nat_le j (length cs) then Some (take (j - i) (drop i cs)) else None

-- the code points from place i on, if it is at most the size
abbrev pub from_on : ℕ → List ℕ → Option (List ℕ)
from_on i cs = if nat_le i (length cs) then Some (drop i cs) else None

-- the code point at place i, or nothing at the end
abbrev pub code_point_at : ℕ → List ℕ → Option (List ℕ)
code_point_at i cs = if nat_le i (length cs) then Some (take 1 (drop i cs)) else None

-- the text of code points
abbrev pub spelled : Option (List ℕ) → Option (List ℕ)
spelled cs = option_map encode_utf8_all cs

-- `text.substring(i, j)`
unfoldable pub substring_of : ℤ → ℤ → List ℕ → Option (List ℕ)
substring_of i j text = option_and_then (λ m. option_and_then (λ n. spelled (from_to m n (chars text))) (natural j)) (natural i)

-- `text.substring(i)`
unfoldable pub substring_from_of : ℤ → List ℕ → Option (List ℕ)
substring_from_of i text = option_and_then (λ m. spelled (from_on m (chars text))) (natural i)

-- `text.charAt(i)`
unfoldable pub char_at_of : ℤ → List ℕ → Option (List ℕ)
char_at_of i text = option_and_then (λ m. spelled (code_point_at m (chars text))) (natural i)

-- a place as an int; -1 for none
abbrev pub place_or_none : Option ℕ → ℤ
place_or_none None = negsuc 0
place_or_none (Some k) = pos k

-- the first place of a part from place n on, or from the end if n is after it
abbrev pub first_from_place : ℕ → List ℕ → List ℕ → ℤ
first_from_place n part cs = place_or_none (first_place part cs (min n (length cs)))

-- `text.indexOf(part, i)`; no value for a negative place
unfoldable pub index_of_from : List ℕ → ℤ → List ℕ → Option ℤ
index_of_from part i text = option_and_then (λ n. Some (first_from_place n (chars part) (chars text))) (natural i)

-- `text.indexOf(part)`
unfoldable pub index_of_of : List ℕ → List ℕ → ℤ
index_of_of part text = first_from_place 0 (chars part) (chars text)

-- the last place of a part up to place n
abbrev pub last_to_place : ℕ → List ℕ → List ℕ → ℤ
last_to_place n part cs = place_or_none (last_place part cs (min n (length cs)))

-- a part that is not empty has no place up to the end or a place after it: cel-go looks for none there
abbrev pub last_within : ℕ → List ℕ → List ℕ → ℤ
last_within n part cs = if nat_lt 0 (length part) && nat_le (length cs) n then negsuc 0 else last_to_place n part cs

-- `text.lastIndexOf(part, i)`; no value for a negative place
unfoldable pub last_index_of_to : List ℕ → ℤ → List ℕ → Option ℤ
last_index_of_to part i text = option_and_then (λ n. Some (last_within n (chars part) (chars text))) (natural i)

-- `text.lastIndexOf(part)`
unfoldable pub last_index_of_of : List ℕ → List ℕ → ℤ
last_index_of_of part text = place_or_none (last_place (chars part) (chars text) (length (chars text)))
