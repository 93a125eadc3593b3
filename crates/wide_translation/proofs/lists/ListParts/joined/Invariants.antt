-- Loop invariant of `joined` (src/lists.rt).
use Rattle.std.proofs.Common.{◌≡◌, map, length}
use Rattle.cel_reader.specs.Tree as node
use Rattle.wide_translation.specs.Segments.{joined, segment_view}
use Rattle.wide_translation.proofs.lists.ListParts.joined.Given as goal

abbrev pub invariant-loop-items : goal.invariant-loop-items
invariant-loop-items l = joined (map segment_view l.before.items) (node.view l.tree) ≡ joined (map segment_view l.initial.before.items) (node.view l.initial.tree)

abbrev pub decreases-loop-items : goal.decreases-loop-items
decreases-loop-items l = length l.before.items
