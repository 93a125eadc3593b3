-- Openings of groups: `(`, `(?:`, `(?P<name>` and `(?<name>`.
use Rattle.std.specs.Prelude.{ℕ, ◌+◌, List, [], ◌∷◌, ◌&&◌, ◌==◌, nat_le, if◌then◌else◌, drop, Option, Some, None}
use Rattle.pattern_reader.specs.Points.{word_len, begins_with}

-- the length of a name of one or more word characters and `>` (62), with those that are before it
abbrev pub name_end : ℕ → List ℕ → Option ℕ
name_end before points =
    if nat_le 1 (word_len points) && begins_with 62 (drop (word_len points) points) then Some (word_len points + before) else None

-- the length of an opening after `(?P`: `<` (60), a name and its end
abbrev pub python_open : List ℕ → Option ℕ
python_open [] = None
python_open (c ∷ points) = if c == 60 then name_end 5 points else None

-- the length of an opening after `(?`: `:` (58), `<` (60) or `P` (80)
abbrev pub marked_open : List ℕ → Option ℕ
marked_open [] = None
marked_open (c ∷ points) =
    if c == 58 then Some 3 else (if c == 60 then name_end 4 points else (if c == 80 then python_open points else None))

-- the length of an opening after `(`
abbrev pub open_len : List ℕ → Option ℕ
open_len [] = Some 1
open_len (c ∷ points) = if c == 63 then marked_open points else Some 1
