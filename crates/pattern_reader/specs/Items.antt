-- The items that a pattern is written of.
use Rattle.std.specs.Prelude.{ℕ, List, [], ◌∷◌, Bool, true, false, ◌||◌, ◌==◌, nat_lt, if◌then◌else◌, Option, Some, None}
use Rattle.pattern_reader.specs.Points.{begins_with}
use Rattle.pattern_reader.specs.Escapes.{escaped}
use Rattle.pattern_reader.specs.Counts.{repeat_at}
use Rattle.pattern_reader.specs.Openings.{open_len}
use Rattle.pattern_reader.specs.Brackets.{part_at}
use Rattle.pattern_reader.specs.declared.item.Item.{Item}
use Rattle.pattern_reader.specs.declared.item.Item.TheVariants as kind
use Rattle.pattern_reader.specs.declared.repeat.Repeat.{Repeat}
use Rattle.pattern_reader.specs.declared.place.Place.{Place}
use Rattle.pattern_reader.specs.declared.place.Place.TheVariants.{Outside, Opened, Inside}

-- an opening of this length
abbrev pub opening : Option ℕ → Option (Item × ℕ)
opening None = None
opening (Some len) = Some (kind.Open, len)

-- a repetition and its length
abbrev pub repetition : Option (Repeat × ℕ) → Option (Item × ℕ)
repetition None = None
repetition (Some (r, len)) = Some (kind.Repeat r, len)

-- an item of two code points
abbrev pub of_two : Option Item → Option (Item × ℕ)
of_two None = None
of_two (Some i) = Some (i, 2)

-- the item after a backslash
abbrev pub after_backslash : List ℕ → Option (Item × ℕ)
after_backslash [] = None
after_backslash (c ∷ points) = of_two (escaped c)

-- the code point begins a repetition: `*` (42), `+` (43), `?` (63), `{` (123)
abbrev pub begins_repeat : ℕ → Bool
begins_repeat c = (c == 42) || (c == 43) || (c == 63) || (c == 123)

-- the item that this code point is, if none other has a place in it: `.` (46), `^` (94), `$` (36), `|` (124), `)` (41)
abbrev pub single : ℕ → Item
single c =
    if c == 46 then kind.Any else (if c == 94 then kind.Start else (if c == 36 then kind.End
    else (if c == 124 then kind.Bar else (if c == 41 then kind.Close else kind.Literal c))))

-- the opening of brackets: `[` or `[^` (94)
abbrev pub bracket : List ℕ → Item × ℕ
bracket points = if begins_with 94 points then (kind.OpenBracket true, 2) else (kind.OpenBracket false, 1)

-- the item at the front, outside brackets: `(` (40), `[` (91), a backslash (92), a repetition, or a single code point
abbrev pub item_at : List ℕ → Option (Item × ℕ)
item_at [] = None
item_at (c ∷ points) =
    if c == 40 then opening (open_len points)
    else (if c == 91 then Some (bracket points)
    else (if c == 92 then after_backslash points
    else (if begins_repeat c then repetition (repeat_at (c ∷ points)) else Some (single c, 1))))

-- the item at the front at this place
abbrev pub placed_at : Place → List ℕ → Option (Item × ℕ)
placed_at Outside points = item_at points
placed_at Opened points = part_at true points
placed_at Inside points = part_at false points

-- where cases are folded only ASCII code points are taken
abbrev pub is_taken : Bool → Item → Bool
is_taken false _ = true
is_taken true (kind.Literal c) = nat_lt c 128
is_taken true (kind.Range low high) = nat_lt high 128
is_taken true _ = true

-- the item, if it is taken
abbrev pub if_taken : Bool → Option (Item × ℕ) → Option (Item × ℕ)
if_taken fold None = None
if_taken fold (Some (i, len)) = if is_taken fold i then Some (i, len) else None

-- the item at the front at this place, with its length; `fold`: cases are folded
abbrev pub next_at : Bool → Place → List ℕ → Option (Item × ℕ)
next_at fold place points = if_taken fold (placed_at place points)

-- the place after an item
abbrev pub place_after : Item → Place
place_after (kind.OpenBracket _) = Opened
place_after (kind.Range _ _) = Inside
place_after (kind.Member _) = Inside
place_after _ = Outside
