-- Splitting and replacing, on lists of code points (cel-go, ext/strings.go; Go, strings.SplitN and strings.Replace).
use Rattle.std.specs.Prelude.{ℕ, zero, suc, ◌+◌, ◌-◌, ◌==◌, ℤ, pos, negsuc, List, [], ◌∷◌, ◌++◌, length, map, Option, Some, None}
use Rattle.std.specs.Prelude.{encode_utf8_all, if◌then◌else◌}
use Rattle.std.specs.Str.{chars}
use Rattle.text_functions.specs.Places.{around}

-- what is made of code points that are cut nowhere, or in two
abbrev pub on_cut : {X : Type 0} → X → (List ℕ × List ℕ → X) → Option (List ℕ × List ℕ) → X
on_cut whole cut None = whole
on_cut whole cut (Some parts) = cut parts

-- the code points before and after the next cut, if one of n is left
abbrev pub next_cut : ℕ → List ℕ → List ℕ → Option (List ℕ × List ℕ)
next_cut zero separator cs = None
next_cut (suc n) separator cs = around separator cs

-- the pieces between the first n places of a separator that is not empty, from the left and without overlap
abbrev pub pieces : ℕ → List ℕ → List ℕ → List (List ℕ)
pieces zero separator cs = cs ∷ []
pieces (suc n) separator cs = on_cut (cs ∷ []) (λ parts. parts.0 ∷ pieces n separator parts.1) (around separator cs)

-- the first n code points, each alone, and those that are left
abbrev pub letters : ℕ → List ℕ → List (List ℕ)
letters n [] = []
letters zero (c ∷ cs) = (c ∷ cs) ∷ []
letters (suc n) (c ∷ cs) = (c ∷ []) ∷ letters n cs

-- the code points cut at most n times at a separator; at an empty one, after each code point
abbrev pub cut_at : ℕ → List ℕ → List ℕ → List (List ℕ)
cut_at n separator cs = if length separator == 0 then letters n cs else pieces n separator cs

-- the greatest number of cuts for a number of pieces; none at all for 0. A negative number is no bound: a text has at
-- most as many cuts as code points
abbrev pub cuts : ℤ → ℕ → Option ℕ
cuts (pos n) size = if n == 0 then None else Some (n - 1)
cuts (negsuc _) size = Some size

abbrev pub cut_by : Option ℕ → List ℕ → List ℕ → List (List ℕ)
cut_by None separator cs = []
cut_by (Some n) separator cs = cut_at n separator cs

-- the texts of lists of code points
abbrev pub all_spelled : List (List ℕ) → List (List ℕ)
all_spelled parts = map encode_utf8_all parts

-- `text.split(separator, most)`
unfoldable pub split_of : ℤ → List ℕ → List ℕ → List (List ℕ)
split_of most separator text = all_spelled (cut_by (cuts most (length (chars text))) (chars separator) (chars text))

-- the code points with the first n places of a part that is not empty replaced, from the left and without overlap
abbrev pub replaced : ℕ → List ℕ → List ℕ → List ℕ → List ℕ
replaced zero part other cs = cs
replaced (suc n) part other cs = on_cut cs (λ parts. parts.0 ++ (other ++ replaced n part other parts.1)) (around part cs)

-- the code points with others before each of the first n, and at the end if n exceeds their number
abbrev pub parted : ℕ → List ℕ → List ℕ → List ℕ
parted zero other cs = cs
parted (suc n) other [] = other
parted (suc n) other (c ∷ cs) = other ++ (c ∷ parted n other cs)

-- the code points with at most n places of a part replaced; an empty part is before each code point and at the end
abbrev pub with_other : ℕ → List ℕ → List ℕ → List ℕ → List ℕ
with_other n part other cs = if length part == 0 then parted n other cs else replaced n part other cs

-- the greatest number of places. A negative number is no bound: a text has at most one place more than code points
abbrev pub times : ℤ → ℕ → ℕ
times (pos n) size = n
times (negsuc _) size = size + 1

-- `text.replace(part, other, most)`
unfoldable pub replace_of : ℤ → List ℕ → List ℕ → List ℕ → List ℕ
replace_of most part other text = encode_utf8_all (with_other (times most (length (chars text))) (chars part) (chars other) (chars text))
