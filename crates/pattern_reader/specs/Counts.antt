-- Repetitions: `*`, `+`, `?`, `{n}`, `{n,}` and `{n,m}`, each with a `?` if fewer times are preferred.
use Rattle.std.specs.Prelude.{ℕ, ◌+◌, ◌*◌, ◌-◌, List, [], ◌∷◌, Bool, true, false, not, ◌&&◌, ◌||◌, ◌==◌, nat_le, if◌then◌else◌, length, drop, take, Option, Some, None}
use Rattle.pattern_reader.specs.Points.{digits_len, begins_with}
use Rattle.pattern_reader.specs.declared.repeat.Repeat.{Repeat}

-- the number that at most four digits denote
abbrev pub value : List ℕ → ℕ
value [] = 0
value (a ∷ []) = a - 48
value (a ∷ b ∷ []) = (a - 48) * 10 + (b - 48)
value (a ∷ b ∷ c ∷ []) = (a - 48) * 100 + (b - 48) * 10 + (c - 48)
value (a ∷ b ∷ c ∷ d ∷ _) = (a - 48) * 1000 + (b - 48) * 100 + (c - 48) * 10 + (d - 48)

-- these digits are a count: one to four of them, no 0 before others, and at most 1,000
abbrev pub is_count : List ℕ → Bool
is_count digits =
    nat_le 1 (length digits) && nat_le (length digits) 4 && ((length digits == 1) || not (begins_with 48 digits))
    && nat_le (value digits) 1000

-- the count that these digits are, with their number
abbrev pub count_of : List ℕ → Option (ℕ × ℕ)
count_of digits = if is_count digits then Some (value digits, length digits) else None

-- the count at the front, with the number of its digits
abbrev pub count_at : List ℕ → Option (ℕ × ℕ)
count_at points = count_of (take (digits_len points) points)

-- counts, and the number of code points that they are written with
abbrev pub RepeatCounts : Type 0
RepeatCounts = ℕ × Option ℕ × ℕ

-- the second count of `{n,m}` after the comma, n having been written with this number of digits; or `}`
abbrev pub up_to : ℕ → ℕ → List ℕ → Option (ℕ × ℕ) → Option RepeatCounts
up_to min len points None = if begins_with 125 points then Some (min, None, len + 3) else None
up_to min len points (Some (max, more)) =
    if nat_le min max && begins_with 125 (drop more points) then Some (min, Some max, len + more + 3) else None

-- what follows the count `n` after `{`
abbrev pub after_min : List ℕ → Option (ℕ × ℕ) → Option RepeatCounts
after_min points None = None
after_min points (Some (min, len)) =
    if begins_with 125 (drop len points) then Some (min, Some min, len + 2)
    else (if begins_with 44 (drop len points) then up_to min len (drop (len + 1) points) (count_at (drop (len + 1) points)) else None)

-- the counts after `{`
abbrev pub braces : List ℕ → Option RepeatCounts
braces points = after_min points (count_at points)

-- the counts at the front: `*` (42), `+` (43), `?` (63) or `{` (123)
abbrev pub counts_at : List ℕ → Option RepeatCounts
counts_at [] = None
counts_at (c ∷ points) =
    if c == 42 then Some (0, None, 1) else (if c == 43 then Some (1, None, 1) else (if c == 63 then Some (0, Some 1, 1)
    else (if c == 123 then braces points else None)))

-- counts as a repetition, and a `?` after them
abbrev pub with_laziness : List ℕ → Option RepeatCounts → Option (Repeat × ℕ)
with_laziness points None = None
with_laziness points (Some (min, max, len)) =
    if begins_with 63 (drop len points) then Some (record { min = min; max = max; lazy = true }, len + 1)
    else Some (record { min = min; max = max; lazy = false }, len)

-- the repetition at the front, with its length
abbrev pub repeat_at : List ℕ → Option (Repeat × ℕ)
repeat_at points = with_laziness points (counts_at points)
