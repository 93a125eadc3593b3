-- Loop invariant of `code::variables::routine_named`.

use Rattle.tree_code.proofs.Prelude.{◌≡◌, drop, routine_named, routines_within}
use Rattle.tree_code.proofs.Walks.{counted}
use Rattle.tree_code.proofs.code.variables.routine_named.Given as goal

abbrev pub invariant-loop-i : goal.invariant-loop-i
invariant-loop-i l = counted l.i (routine_named l.name (drop l.i (routines_within l.around))) ≡ routine_named l.name (routines_within l.around)
