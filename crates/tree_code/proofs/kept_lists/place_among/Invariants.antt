-- Loop invariant of `kept_lists::place_among`.

use Rattle.tree_code.proofs.Prelude.{◌≡◌, drop, map, core_view, cores, kept_place, lists_view}
use Rattle.tree_code.proofs.KeptLists.{counted}
use Rattle.tree_code.proofs.kept_lists.place_among.Given as goal

abbrev pub invariant-loop-place : goal.invariant-loop-place
invariant-loop-place l = counted l.place (kept_place (cores (map core_view l.items)) (drop l.place (lists_view l.lists))) ≡ kept_place (cores (map core_view l.items)) (lists_view l.lists)
