-- Items in brackets: code points, ranges, sets, and the end.
use Rattle.std.specs.Prelude.{ℕ, ◌+◌, List, [], ◌∷◌, Bool, false, not, ◌&&◌, ◌||◌, ◌==◌, nat_le, if◌then◌else◌, drop, take, Option, Some, None, codes, bytes_eq}
use Rattle.pattern_reader.specs.Points.{word_len, begins_with}
use Rattle.pattern_reader.specs.Escapes.{escape_of, set_of}
use Rattle.pattern_reader.specs.declared.item.Item.{Item}
use Rattle.pattern_reader.specs.declared.item.Item.TheVariants.{Range, Member, CloseBracket}
use Rattle.pattern_reader.specs.declared.set.Set.{Set}
use Rattle.pattern_reader.specs.declared.set.Set.TheVariants as named

-- the set with this name
abbrev pub set_named : List ℕ → Option Set
set_named name =
    if bytes_eq name (codes "alnum") then Some named.Alnum else (if bytes_eq name (codes "alpha") then Some named.Alpha
    else (if bytes_eq name (codes "ascii") then Some named.Ascii else (if bytes_eq name (codes "blank") then Some named.Blank
    else (if bytes_eq name (codes "cntrl") then Some named.Cntrl else (if bytes_eq name (codes "digit") then Some named.Digit
    else (if bytes_eq name (codes "graph") then Some named.Graph else (if bytes_eq name (codes "lower") then Some named.Lower
    else (if bytes_eq name (codes "print") then Some named.Print else (if bytes_eq name (codes "punct") then Some named.Punct
    else (if bytes_eq name (codes "space") then Some named.Space else (if bytes_eq name (codes "upper") then Some named.Upper
    else (if bytes_eq name (codes "word") then Some named.Word else (if bytes_eq name (codes "xdigit") then Some named.Xdigit
    else None)))))))))))))

-- a set and its length, as an item
abbrev pub member : ℕ → Option Set → Option (Item × ℕ)
member len None = None
member len (Some set) = Some (Member set, len)

-- `:]` is at the front
abbrev pub ends_name : List ℕ → Bool
ends_name points = begins_with 58 points && begins_with 93 (drop 1 points)

-- the named set after `[`: `:` (58), a name and `:]`
abbrev pub named_at : List ℕ → Option (Item × ℕ)
named_at [] = None
named_at (c ∷ points) =
    if (c == 58) && ends_name (drop (word_len points) points)
    then member (word_len points + 4) (set_named (take (word_len points) points)) else None

-- a code point that has to be escaped in brackets if it is before these: `[` (91), `]` (93), `-` (45), and `&` (38) or
-- `~` (126) before another
abbrev pub is_reserved : ℕ → List ℕ → Bool
is_reserved c points =
    (c == 91) || (c == 93) || (c == 45) || (((c == 38) || (c == 126)) && begins_with c points)

-- a code point and its length
abbrev pub with_len : ℕ → Option ℕ → Option (ℕ × ℕ)
with_len len None = None
with_len len (Some c) = Some (c, len)

-- the code point after a backslash
abbrev pub escaped_point : List ℕ → Option (ℕ × ℕ)
escaped_point [] = None
escaped_point (c ∷ points) = with_len 2 (escape_of c)

-- the code point at the front: escaped after a backslash (92), or as it is
abbrev pub point_at : List ℕ → Option (ℕ × ℕ)
point_at [] = None
point_at (c ∷ points) =
    if c == 92 then escaped_point points else (if is_reserved c points then None else Some (c, 1))

-- the range from `low`, of this length, to the code point after the `-`
abbrev pub range_to : ℕ → ℕ → Option (ℕ × ℕ) → Option (Item × ℕ)
range_to low len None = None
range_to low len (Some (high, more)) = if nat_le low high then Some (Range low high, len + more + 1) else None

-- a `-` and another code point than `]` are at the front
abbrev pub goes_on : List ℕ → Bool
goes_on [] = false
goes_on (a ∷ []) = false
goes_on (a ∷ b ∷ points) = (a == 45) && not (b == 93)

-- the range from this code point, or the code point alone
abbrev pub range_from : List ℕ → Option (ℕ × ℕ) → Option (Item × ℕ)
range_from points None = None
range_from points (Some (low, len)) =
    if goes_on (drop len points) then range_to low len (point_at (drop (len + 1) points)) else Some (Range low low, len)

-- the code point or range at the front
abbrev pub range_at : List ℕ → Option (Item × ℕ)
range_at points = range_from points (point_at points)

-- after a backslash that is a set: its letter; else the code point or range
abbrev pub set_or_range : List ℕ → Option Set → Option (Item × ℕ)
set_or_range points None = range_at points
set_or_range points (Some set) = Some (Member set, 2)

-- the set that a backslash and a letter at the front are
abbrev pub escaped_set : List ℕ → Option Set
escaped_set [] = None
escaped_set (a ∷ []) = None
escaped_set (a ∷ b ∷ points) = if a == 92 then set_of b else None

-- a `-` before these is a code point: it is first, or before `]`; and not before another `-`
abbrev pub is_dash : Bool → List ℕ → Bool
is_dash first points = (first || begins_with 93 points) && not (begins_with 45 points)

-- the item at the front, in brackets; `first`: right after they open
abbrev pub part_at : Bool → List ℕ → Option (Item × ℕ)
part_at first [] = None
part_at first (c ∷ points) =
    if c == 93 then (if first then None else Some (CloseBracket, 1))
    else (if c == 91 then named_at points
    else (if c == 45 then (if is_dash first points then Some (Range 45 45, 1) else None)
    else set_or_range (c ∷ points) (escaped_set (c ∷ points))))
