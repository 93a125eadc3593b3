-- The flags at the start of a pattern: `(?i)`, `(?s)`, `(?is)` or `(?si)`.
use Rattle.std.specs.Prelude.{ℕ, List, [], ◌∷◌, Bool, true, false, ◌&&◌, ◌||◌, ◌==◌, if◌then◌else◌, Option, Some, None}
use Rattle.pattern_reader.specs.Points.{begins_with}
use Rattle.pattern_reader.specs.declared.flags.Flags.{Flags}

abbrev pub flags : Bool → Bool → Flags
flags fold dot_all = record { fold = fold; dot_all = dot_all }

-- the flag `i` (105) or `s` (115) alone, in a group of 4 code points
abbrev pub alone : ℕ → Option (Flags × ℕ)
alone letter =
    if letter == 105 then Some (flags true false, 4) else (if letter == 115 then Some (flags false true, 4) else None)

-- both flags, in a group of 5 code points, or one alone: `)` (41) ends them
abbrev pub letters : ℕ → ℕ → List ℕ → Option (Flags × ℕ)
letters first second points =
    if second == 41 then alone first
    else (if (((first == 105) && (second == 115)) || ((first == 115) && (second == 105))) && begins_with 41 points
    then Some (flags true true, 5) else None)

-- the flags after `(?`
abbrev pub letters_at : List ℕ → Option (Flags × ℕ)
letters_at [] = None
letters_at (first ∷ []) = None
letters_at (first ∷ second ∷ points) = letters first second points

-- the group of flags at the front: `(` (40), `?` (63), letters and `)`
abbrev pub group_at : List ℕ → Option (Flags × ℕ)
group_at [] = None
group_at (a ∷ []) = None
group_at (a ∷ b ∷ points) = if (a == 40) && (b == 63) then letters_at points else None

abbrev pub or_none : Option (Flags × ℕ) → Flags × ℕ
or_none None = (flags false false, 0)
or_none (Some x) = x

-- the flags at the start, with their length
abbrev pub flags_at : List ℕ → Flags × ℕ
flags_at points = or_none (group_at points)
