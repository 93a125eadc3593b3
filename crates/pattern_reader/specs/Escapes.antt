-- What a backslash and the code point after it mean.
use Rattle.std.specs.Prelude.{ℕ, true, false, ◌==◌, if◌then◌else◌, Option, Some, None, option_map}
use Rattle.std.specs.Char.{is_ascii_punctuation}
use Rattle.pattern_reader.specs.declared.item.Item.{Item}
use Rattle.pattern_reader.specs.declared.item.Item.TheVariants as kind
use Rattle.pattern_reader.specs.declared.set.Set.{Set}
use Rattle.pattern_reader.specs.declared.set.Set.TheVariants.{Digit, Word, PerlSpace}

-- the code point that `\c` means: n, r, t, f, v, or an ASCII punctuation character, which means itself
abbrev pub escape_of : ℕ → Option ℕ
escape_of c =
    if c == 110 then Some 10 else (if c == 114 then Some 13 else (if c == 116 then Some 9
    else (if c == 102 then Some 12 else (if c == 118 then Some 11 else (if is_ascii_punctuation c then Some c else None)))))

-- the set that `\c` means: d, w, s
abbrev pub set_of : ℕ → Option Set
set_of c = if c == 100 then Some Digit else (if c == 119 then Some Word else (if c == 115 then Some PerlSpace else None))

-- the set that `\C` is the complement of: D, W, S
abbrev pub complement_of : ℕ → Option Set
complement_of c = if c == 68 then Some Digit else (if c == 87 then Some Word else (if c == 83 then Some PerlSpace else None))

-- the item that `\c` is outside brackets, if it is no set: A, z, b or a literal
abbrev pub plain_escape : ℕ → Option Item
plain_escape c =
    if c == 65 then Some kind.Start else (if c == 122 then Some kind.End else (if c == 98 then Some kind.Boundary
    else option_map kind.Literal (escape_of c)))

-- the complement, or another item
abbrev pub complement_or : ℕ → Option Set → Option Item
complement_or c None = plain_escape c
complement_or c (Some set) = Some (kind.Named set true)

-- the set, or another item
abbrev pub set_or : ℕ → Option Set → Option Item
set_or c None = complement_or c (complement_of c)
set_or c (Some set) = Some (kind.Named set false)

-- the item that `\c` is outside brackets
abbrev pub escaped : ℕ → Option Item
escaped c = set_or c (set_of c)
