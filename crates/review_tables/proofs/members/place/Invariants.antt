-- Loop invariant of `members::place`.

use Rattle.review_tables.specs.Members.{key_at}
use Rattle.review_tables.proofs.Membered.{NoneBefore}
use Rattle.review_tables.proofs.members.place.Given as goal

abbrev pub invariant-loop-i : goal.invariant-loop-i
invariant-loop-i l = NoneBefore (key_at l.key) l.entries l.i
