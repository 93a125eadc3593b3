-- Places at which one text is in another, both as lists of code points (cel-go, ext/strings.go; Go, strings.Index).
use Rattle.std.specs.Prelude.{ℕ, zero, suc, ◌+◌, ◌-◌, List, [], ◌∷◌, length, take, drop, Bool, true, false, ◌&&◌, nat_eq, Option, Some}
use Rattle.std.specs.Prelude.{None, option_map, if◌then◌else◌}

-- whether code points begin with a part
abbrev pub begins : List ℕ → List ℕ → Bool
begins [] cs = true
begins (p ∷ part) [] = false
begins (p ∷ part) (c ∷ cs) = nat_eq p c && begins part cs

-- whether a part is at place k: the code points from there on begin with it
abbrev pub is_at : List ℕ → List ℕ → ℕ → Bool
is_at part cs k = begins part (drop k cs)

-- the first of the n places from k on that has a property
abbrev pub first_from : (ℕ → Bool) → ℕ → ℕ → Option ℕ
first_from has k zero = None
first_from has k (suc n) = if has k then Some k else first_from has (suc k) n

-- the last of the n places from 0 on that has a property
abbrev pub last_below : (ℕ → Bool) → ℕ → Option ℕ
last_below has zero = None
last_below has (suc n) = if has n then Some n else last_below has n

-- the first place of a part from place k up to the end
abbrev pub first_place : List ℕ → List ℕ → ℕ → Option ℕ
first_place part cs k = first_from (is_at part cs) k (suc (length cs) - k)

-- the last place of a part from 0 up to place k
abbrev pub last_place : List ℕ → List ℕ → ℕ → Option ℕ
last_place part cs k = last_below (is_at part cs) (suc k)

-- the code points before and after the first place of a part
abbrev pub around : List ℕ → List ℕ → Option (List ℕ × List ℕ)
around part cs = option_map (λ k. (take k cs, drop (k + length part) cs)) (first_place part cs 0)
