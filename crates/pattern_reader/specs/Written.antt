-- The text that is written for the `regex` crate, as UTF-8.
use Rattle.std.specs.Prelude.{ℕ, List, [], ◌++◌, Bool, not, ◌&&◌, ◌||◌, ◌==◌, if◌then◌else◌, Option, Some, None, codes, decimal, encode_utf8}
use Rattle.std.specs.Char.{is_ascii_punctuation}
use Rattle.std.specs.List.{flat_map}
use Rattle.pattern_reader.specs.declared.item.Item.{Item}
use Rattle.pattern_reader.specs.declared.item.Item.TheVariants as kind
use Rattle.pattern_reader.specs.declared.flags.Flags.{Flags}
use Rattle.pattern_reader.specs.declared.repeat.Repeat.{Repeat}
use Rattle.pattern_reader.specs.declared.set.Set.{Set}
use Rattle.pattern_reader.specs.declared.set.Set.TheVariants as named

-- punctuation that the `regex` crate reads as itself, and not after a backslash: ! " % ' , / : ; < = > @ _ `
abbrev pub is_plain : ℕ → Bool
is_plain c =
    (c == 33) || (c == 34) || (c == 37) || (c == 39) || (c == 44) || (c == 47) || (c == 58) || (c == 59)
    || (c == 60) || (c == 61) || (c == 62) || (c == 64) || (c == 95) || (c == 96)

-- punctuation that it reads as itself only after a backslash
abbrev pub is_special : ℕ → Bool
is_special c = is_ascii_punctuation c && not (is_plain c)

-- a code point that matches itself
abbrev pub quoted : ℕ → List ℕ
quoted c = (if is_special c then codes "\\" else []) ++ encode_utf8 c

-- the members of a set, in brackets
abbrev pub members : Set → List ℕ
members named.Alnum = codes "0-9A-Za-z"
members named.Alpha = codes "A-Za-z"
members named.Ascii = codes "\\x00-\\x7F"
members named.Blank = codes "\\t "
members named.Cntrl = codes "\\x00-\\x1F\\x7F"
members named.Digit = codes "0-9"
members named.Graph = codes "!-\\~"
members named.Lower = codes "a-z"
members named.Print = codes " -\\~"
members named.Punct = codes "!-/:-@\\[-`\\{-\\~"
members named.Space = codes "\\t\\n\\v\\f\\r "
members named.Upper = codes "A-Z"
members named.Word = codes "0-9A-Za-z_"
members named.Xdigit = codes "0-9A-Fa-f"
members named.PerlSpace = codes "\\t\\n\\f\\r "

-- an opening of brackets
abbrev pub bracket : Bool → List ℕ
bracket negated = if negated then codes "[^" else codes "["

-- how often: `*`, `+`, `?`, `{n,}` or `{n,m}`
abbrev pub counts : ℕ → Option ℕ → List ℕ
counts min None =
    if min == 0 then codes "*" else (if min == 1 then codes "+" else (codes "{" ++ (decimal min ++ codes ",}")))
counts min (Some max) =
    if (min == 0) && (max == 1) then codes "?"
    else (codes "{" ++ (decimal min ++ (codes "," ++ (decimal max ++ codes "}"))))

-- a repetition: `?` if fewer times are preferred
abbrev pub repetition : Repeat → List ℕ
repetition r = counts r.min r.max ++ (if r.lazy then codes "?" else [])

-- an item; `dot_all`: `.` matches a line feed too
abbrev pub item_text : Bool → Item → List ℕ
item_text dot_all (kind.Literal c) = quoted c
item_text dot_all kind.Any = if dot_all then codes "(?s:.)" else codes "[^\\n]"
item_text dot_all (kind.Named set negated) = bracket negated ++ (members set ++ codes "]")
item_text dot_all kind.Start = codes "\\A"
item_text dot_all kind.End = codes "\\z"
item_text dot_all kind.Boundary = codes "(?-u:\\b)"
item_text dot_all kind.Open = codes "(?:"
item_text dot_all kind.Bar = codes "|"
item_text dot_all kind.Close = codes ")"
item_text dot_all (kind.Repeat r) = repetition r
item_text dot_all (kind.OpenBracket negated) = bracket negated
item_text dot_all (kind.Range low high) = quoted low ++ (codes "-" ++ quoted high)
item_text dot_all (kind.Member set) = members set
item_text dot_all kind.CloseBracket = codes "]"

-- the flag of a pattern
abbrev pub fold_text : Bool → List ℕ
fold_text fold = if fold then codes "(?i)" else []

-- the text of a pattern
abbrev pub written : Flags → List Item → List ℕ
written flags items = fold_text flags.fold ++ flat_map (item_text flags.dot_all) items
