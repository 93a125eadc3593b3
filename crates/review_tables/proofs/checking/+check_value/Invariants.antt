-- Loop invariants and the termination measures of `checking::check_value`.

use Rattle.value_table.proofs.Prelude.{◌+◌, length}
use Rattle.std.proofs.Common.{◌*◌}
use Rattle.review_tables.proofs.CheckLoops.{ItemsChecked, MembersChecked}
use Rattle.review_tables.proofs.checking.+check_value.Given as goal

abbrev pub decreases-check_value : goal.decreases-check_value
decreases-check_value l = 3 * l.depth + 1

abbrev pub decreases-check_token : goal.decreases-check_token
decreases-check_token l = 3 * l.depth

abbrev pub decreases-check_items : goal.decreases-check_items
decreases-check_items l = 3 * l.depth + 2

abbrev pub decreases-check_members : goal.decreases-check_members
decreases-check_members l = 3 * l.depth + 2

abbrev pub invariant-check_items-items : goal.invariant-check_items-items
invariant-check_items-items l = ItemsChecked l.depth l.initial.reader l.reader

abbrev pub decreases-check_items-items : goal.decreases-check_items-items
decreases-check_items-items l = length l.reader

abbrev pub invariant-check_members-members : goal.invariant-check_members-members
invariant-check_members-members l = MembersChecked l.depth l.initial.reader l.reader

abbrev pub decreases-check_members-members : goal.decreases-check_members-members
decreases-check_members-members l = length l.reader
