-- Loop invariant of `kept_lists::same_items`.

use Rattle.tree_code.proofs.Prelude.{◌≡◌, drop, map, core_view, cores, same_items}
use Rattle.tree_code.proofs.kept_lists.same_items.Given as goal

abbrev pub invariant-loop-i : goal.invariant-loop-i
invariant-loop-i l = same_items (cores (map core_view (drop l.i l.a))) (cores (map core_view (drop l.i l.b))) ≡ same_items (cores (map core_view l.a)) (cores (map core_view l.b))
