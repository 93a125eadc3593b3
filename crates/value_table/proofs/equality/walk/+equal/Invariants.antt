-- Loop invariants and the termination measures of `equality::walk::equal`.

use Rattle.value_table.proofs.Prelude.{List, take, Value, AreSame, AreMeanings}
use Rattle.value_table.proofs.Classes.{Matches}
use Rattle.value_table.proofs.equality.walk.+equal.Given as goal

abbrev pub decreases-equal : goal.decreases-equal
decreases-equal l = l.a

abbrev pub invariant-loop-i : goal.invariant-loop-i
invariant-loop-i l = (vs : List Value) → AreMeanings l.backings vs l.cells → AreSame vs l.fn.same → Matches vs l.fn.same l.same (take l.i l.xs) (take l.i l.ys) l.a l.b l.x l.y
