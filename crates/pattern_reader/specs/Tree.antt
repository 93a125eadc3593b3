-- Patterns as trees, how they are written of items, whether they can match the empty text, and their nested counts.
use Rattle.std.specs.Prelude.{ℕ, ◌*◌, List, [], ◌∷◌, ◌++◌, Bool, true, false, ◌&&◌, ◌||◌, ◌==◌, if◌then◌else◌, max, Option, Some, None}
use Rattle.pattern_reader.specs.declared.item.Item.{Item}
use Rattle.pattern_reader.specs.declared.item.Item.TheVariants as kind
use Rattle.pattern_reader.specs.declared.repeat.Repeat.{Repeat}

-- A pattern. It matches: nothing; what one item matches; what one of the items in brackets matches, or none of them;
-- one pattern and then another; one pattern or else another; a pattern repeated; the pattern in a group.
pub data PatternTree : Type 0 where
  empty : PatternTree
  one : Item → PatternTree
  class : Bool → List Item → PatternTree
  join : PatternTree → PatternTree → PatternTree
  either : PatternTree → PatternTree → PatternTree
  repeated : PatternTree → Repeat → PatternTree
  group : PatternTree → PatternTree

-- the items that a tree is written of
abbrev pub items_of : PatternTree → List Item
items_of empty = []
items_of (one i) = i ∷ []
items_of (class negated parts) = (kind.OpenBracket negated ∷ parts) ++ (kind.CloseBracket ∷ [])
items_of (join a b) = items_of a ++ items_of b
items_of (either a b) = items_of a ++ (kind.Bar ∷ items_of b)
items_of (repeated a r) = items_of a ++ (kind.Repeat r ∷ [])
items_of (group a) = (kind.Open ∷ items_of a) ++ (kind.Close ∷ [])

-- the item matches a place in the text, and no code point
abbrev pub is_edge : Item → Bool
is_edge kind.Start = true
is_edge kind.End = true
is_edge kind.Boundary = true
is_edge _ = false

-- whether the tree can match the empty text
abbrev pub may_be_empty : PatternTree → Bool
may_be_empty empty = true
may_be_empty (one i) = is_edge i
may_be_empty (class _ _) = false
may_be_empty (join a b) = may_be_empty a && may_be_empty b
may_be_empty (either a b) = may_be_empty a || may_be_empty b
may_be_empty (repeated a r) = (r.min == 0) || may_be_empty a
may_be_empty (group a) = may_be_empty a

-- the count of a repetition of a pattern with this weight: the greatest number of times, or the smallest if there is no
-- greatest one; at least 1. A pattern that is never repeated counts 1.
abbrev pub repeated_weight : ℕ → Option ℕ → ℕ → ℕ
repeated_weight least None w = max least 1 * w
repeated_weight least (Some most) w = if most == 0 then 1 else most * w

-- the greatest product of nested counts
abbrev pub weight_of : PatternTree → ℕ
weight_of empty = 1
weight_of (one _) = 1
weight_of (class _ _) = 1
weight_of (join a b) = max (weight_of a) (weight_of b)
weight_of (either a b) = max (weight_of a) (weight_of b)
weight_of (repeated a r) = repeated_weight r.min r.max (weight_of a)
weight_of (group a) = weight_of a
