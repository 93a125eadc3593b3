-- The precedence of versions (SemVer 2.0.0, item 11).
use Rattle.std.specs.Prelude.{ℕ, List, length, ◌==◌, if◌then◌else◌}
use Rattle.std.specs.Cmp.Lexicographic.{slice_cmp}
use Rattle.std.specs.Ordering.{nat_cmp, ordering_then}
use Rattle.std.specs.declared.cmp.Ordering.{Ordering}
use Rattle.std.specs.declared.cmp.Ordering.TheVariants.{Equal, Greater, Less}
use Rattle.text_numbers.specs.Numbers.{number}
use Rattle.versions.specs.Identifiers.{identifiers, is_numeric}
use Rattle.versions.specs.Versions.{Version}

-- two identifiers: numbers by their size and before others, others by their bytes
unfoldable pub identifier_cmp : List ℕ → List ℕ → Ordering
identifier_cmp a b =
    if is_numeric a then (if is_numeric b then nat_cmp (number a) (number b) else Less)
    else (if is_numeric b then Greater else slice_cmp nat_cmp a b)

-- two lists of identifiers: the first that differ decide, else more are after fewer
unfoldable pub identifiers_cmp : List ℕ → List ℕ → Ordering
identifiers_cmp a b = slice_cmp identifier_cmp (identifiers a) (identifiers b)

-- two pre-releases: none is after any
unfoldable pub pre_cmp : List ℕ → List ℕ → Ordering
pre_cmp a b =
    if length a == 0 then (if length b == 0 then Equal else Greater)
    else (if length b == 0 then Less else identifiers_cmp a b)

-- two versions: by the first of the parts that differs
unfoldable pub precedence : Version → Version → Ordering
precedence a b =
    ordering_then (nat_cmp a.major b.major)
    (ordering_then (nat_cmp a.minor b.minor) (ordering_then (nat_cmp a.patch b.patch) (pre_cmp a.pre b.pre)))
