-- List literals whose items are translated one after the other.
use Rattle.std.specs.Prelude.{List, [], ◌∷◌, map}
use Rattle.std.specs.declared.alloc.Global.{Global}
use Rattle.std.specs.declared.vec.Vec.{Vec}
use Rattle.cel_reader.specs.Tree as tree
use Rattle.cel_reader.specs.Tree.{Tree, trees, view}
use Rattle.cel_reader.specs.declared.expr.Expr.{Expr}
use Rattle.cel_reader.specs.declared.operator.BinaryOperator.{TheVariants.Add}
use Rattle.wide_reader.specs.declared.wide.Access.{TheVariants.Plain}
use Rattle.wide_kinds.specs.declared.kind.ValueKind.TheVariants as kind
use Rattle.wide_translation.specs.declared.lists.ListParts.{ListParts}
use Rattle.wide_translation.specs.Carried.{plain, listed, taken}
use Rattle.wide_translation.specs.Parts.{Parts, one_more, list_more, Pairs}
use Rattle.wide_translation.specs.Declarations.{with_part}
use Rattle.wide_translation.specs.declared.entry_part.EntryPart.{EntryPart}

-- items before an optional value, and its list, as plain data
abbrev pub segment_view : Vec Expr Global × Expr → List Tree × Tree
segment_view p = (map view p.0.items, view p.1)

-- some items, an optional value as a list after them, and the list of what comes after
abbrev pub segment_tree : List Tree × Tree → Tree → Tree
segment_tree ([], l) t = tree.binary Add l t
segment_tree (a ∷ more, l) t = tree.binary Add (tree.list (trees (a ∷ more))) (tree.binary Add l t)

-- the list of all of them
abbrev pub joined : List (List Tree × Tree) → Tree → Tree
joined [] t = t
joined (p ∷ ps) t = segment_tree p (joined ps t)

-- items before others
abbrev pub items_more : List Tree → Parts → Parts
items_more [] ps = ps
items_more (a ∷ more) ps = one_more Plain (taken (plain kind.Dyn a)) (items_more more ps)

-- segments, and then items, before others
abbrev pub after : List (List Tree × Tree) → List Tree → Parts → Parts
after [] last ps = items_more last ps
after (p ∷ more) last ps = items_more p.0 (list_more (listed kind.Dyn p.1) (after more last ps))

-- the items of the code before others, and the list of them
abbrev pub after_parts : ListParts → Parts → Parts
after_parts p ps = after (map segment_view p.segments.items) (map view p.last.items) ps

abbrev pub joined_parts : ListParts → Tree
joined_parts p = joined (map segment_view p.segments.items) (tree.list (trees (map view p.last.items)))

-- entries before others
abbrev pub entries_more : List EntryPart → Pairs → Pairs
entries_more [] ps = ps
entries_more (p ∷ more) ps = with_part p (entries_more more ps)
