-- Loop invariant of `kept_lists::are_literals`.

use Rattle.tree_code.proofs.Prelude.{◌≡◌, drop, map, core_view, cores, are_literals}
use Rattle.tree_code.proofs.kept_lists.are_literals.Given as goal

abbrev pub invariant-loop-item : goal.invariant-loop-item
invariant-loop-item l = are_literals (cores (map core_view (drop l.item-index l.items))) ≡ are_literals (cores (map core_view l.items))
