-- What follows from the translations of parts, and literals of lists and maps.
use Rattle.std.specs.Prelude.{◌≡◌, ℕ, suc, nat_le, List, Option, Some, None, if◌then◌else◌}
use Rattle.cel_reader.specs.Tree as tree
use Rattle.cel_reader.specs.Tree.{Tree, Trees, no_trees, more_trees, TreeEntries, no_entries, more_entries}
use Rattle.cel_reader.specs.declared.operator.BinaryOperator.{TheVariants.Add, TheVariants.NotEqual}
use Rattle.wide_reader.specs.declared.wide.Access.{Access, TheVariants.Plain, TheVariants.Optional}
use Rattle.wide_kinds.specs.declared.kind.Kind.{Kind}
use Rattle.wide_kinds.specs.declared.kind.Kind.TheVariants as of
use Rattle.wide_kinds.specs.declared.kind.ValueKind.{ValueKind}
use Rattle.wide_kinds.specs.declared.kind.ValueKind.TheVariants as kind
use Rattle.wide_translation.specs.Carried.{Carried, plain, guarded, listed, WideFault, OptionalValue, OptionalEntry}
use Rattle.wide_translation.specs.Carried.{Translation, taken, refused}
use Rattle.wide_translation.specs.Forms.{empty_tree, first_tree, guarded_tree, let_tree, held, is_simple}
use Rattle.wide_translation.specs.Names.{held_name}

-- ---- translations of parts

-- what follows from a translation; its fault if there is none
abbrev pub with_carried : Translation → (Carried → Translation) → Translation
with_carried (taken c) f = f c
with_carried (refused e) f = refused e

-- what follows from the tree of a value; an optional value is refused
abbrev pub on_plain : Carried → (ValueKind → Tree → Translation) → Translation
on_plain (plain k t) f = f k t
on_plain _ f = refused OptionalValue

abbrev pub with_plain : Translation → (ValueKind → Tree → Translation) → Translation
with_plain t f = with_carried t (λ c. on_plain c f)

-- an optional value as a list; a value as it is
abbrev pub as_list : Carried → Carried
as_list (plain k t) = plain k t
as_list (guarded k g v) = listed k (guarded_tree g v)
as_list (listed k l) = listed k l

-- what follows from the tree of a list; otherwise the fault e
abbrev pub from_list : WideFault → Carried → (ValueKind → Tree → Translation) → Translation
from_list e (listed k l) f = f k l
from_list e _ f = refused e

-- what follows from the tree of an optional value as a list; for a value the fault e
abbrev pub on_list : WideFault → Carried → (ValueKind → Tree → Translation) → Translation
on_list e c f = from_list e (as_list c) f

-- the tree of a value, or that of an optional value as a list, with its kind
abbrev pub IsFinished : Carried → Kind → Tree → Type 0
IsFinished (plain k t) j m = (j ≡ of.Value k) × (m ≡ t)
IsFinished (guarded k g v) j m = (j ≡ of.Optional k) × (m ≡ guarded_tree g v)
IsFinished (listed k l) j m = (j ≡ of.Optional k) × (m ≡ l)

-- a tree that is strict in a, written with a twice or more, if a is simple; otherwise with the name that the
-- translation binds
abbrev pub once : Tree → (Tree → Tree) → Tree
once a b = if is_simple a then b a else let_tree held_name a (b held)

-- ---- literals of lists and maps

-- The trees of items that follow each other, and what comes after them if an optional one does: its list and the list
-- of the others. Or the first fault
pub data Parts : Type 0 where
  parts : Trees → Option (Tree × Tree) → Parts
  no_parts : WideFault → Parts

-- the list of all of them
abbrev pub joined_tree : Trees → Option (Tree × Tree) → Tree
joined_tree no_trees (Some p) = tree.binary Add p.0 p.1
joined_tree (more_trees t ts) (Some p) = tree.binary Add (tree.list (more_trees t ts)) (tree.binary Add p.0 p.1)
joined_tree ts None = tree.list ts

-- one more item before the others
abbrev pub list_more : Carried → Parts → Parts
list_more (listed k l) (parts ts u) = parts no_trees (Some (l, joined_tree ts u))
list_more (listed k l) (no_parts e) = no_parts e
list_more _ ps = no_parts OptionalValue

abbrev pub one_more : Access → Translation → Parts → Parts
one_more Plain (taken (plain k t)) (parts ts u) = parts (more_trees t ts) u
one_more Plain (taken (plain k t)) (no_parts e) = no_parts e
one_more Plain (refused e) ps = no_parts e
one_more Plain (taken _) ps = no_parts OptionalValue
one_more Optional (refused e) ps = no_parts e
one_more Optional (taken c) ps = list_more (as_list c) ps

-- the trees of the entries of a map: a key and its value, or the bytes of a key, a guard and the value if it is true
pub data EntryParts : Type 0 where
  no_parts_left : EntryParts
  entry_part : Tree → Tree → EntryParts → EntryParts
  optional_part : List ℕ → Tree → Tree → EntryParts → EntryParts

-- these, or the first fault
pub data Pairs : Type 0 where
  pairs : EntryParts → Pairs
  no_pairs : WideFault → Pairs

-- the entries with one more at the end
abbrev pub entries_push : TreeEntries → Tree → Tree → TreeEntries
entries_push no_entries k v = more_entries k v no_entries
entries_push (more_entries l w more) k v = more_entries l w (entries_push more k v)

-- the map with these entries before the others: with an optional one if its guard is true, and without it if not
abbrev pub map_tree : TreeEntries → EntryParts → Tree
map_tree before no_parts_left = tree.map before
map_tree before (entry_part k v more) = map_tree (entries_push before k v) more
map_tree before (optional_part f g v more) =
    tree.ternary g (map_tree (entries_push before (tree.literal (tree.text f)) v) more) (map_tree before more)

-- the number of optional entries
abbrev pub optional_count : EntryParts → ℕ
optional_count no_parts_left = 0
optional_count (entry_part k v more) = optional_count more
optional_count (optional_part f g v more) = suc (optional_count more)

-- one more optional entry before the others
abbrev pub optional_more : List ℕ → Carried → Pairs → Pairs
optional_more f (guarded k g v) (pairs ps) = pairs (optional_part f g v ps)
optional_more f (guarded k g v) (no_pairs e) = no_pairs e
optional_more f (listed k l) (pairs ps) = pairs (optional_part f (tree.binary NotEqual l empty_tree) (first_tree l) ps)
optional_more f (listed k l) (no_pairs e) = no_pairs e
optional_more f (plain k t) ps = no_pairs OptionalValue

-- one whose key has this tree
abbrev pub keyed_more : Tree → Carried → Pairs → Pairs
keyed_more (tree.literal (tree.text f)) c ps = optional_more f c ps
keyed_more t c ps = no_pairs OptionalEntry

abbrev pub entry_more : Access → Translation → Translation → Pairs → Pairs
entry_more Plain (taken (plain k t)) (taken (plain j u)) (pairs es) = pairs (entry_part t u es)
entry_more Plain (taken (plain k t)) (taken (plain j u)) (no_pairs e) = no_pairs e
entry_more Plain (taken (plain k t)) (refused e) es = no_pairs e
entry_more Plain (taken (plain k t)) (taken _) es = no_pairs OptionalValue
entry_more Plain (refused e) u es = no_pairs e
entry_more Plain (taken _) u es = no_pairs OptionalValue
entry_more Optional (taken (plain k t)) (taken c) es = keyed_more t c es
entry_more Optional (taken (plain k t)) (refused e) es = no_pairs e
entry_more Optional (refused e) u es = no_pairs e
entry_more Optional (taken _) u es = no_pairs OptionalValue

abbrev pub list_translation : Parts → Translation
list_translation (parts ts u) = taken (plain kind.List (joined_tree ts u))
list_translation (no_parts e) = refused e

abbrev pub map_translation : Pairs → Translation
map_translation (pairs es) = if nat_le (optional_count es) 3 then taken (plain kind.Map (map_tree no_entries es)) else refused OptionalEntry
map_translation (no_pairs e) = refused e
