-- Loop invariant and the termination measures of `reading::read_value`.

use Rattle.std.proofs.Common.{◌*◌, ◌+◌, length}
use Rattle.serde_json.specs.View.{members_view}
use Rattle.request_fields.proofs.KeptSoFar.{KeptSoFar}
use Rattle.request_fields.proofs.reading.+read_value.Given as goal

abbrev pub decreases-read_value : goal.decreases-read_value
decreases-read_value l = 3 * l.depth

abbrev pub decreases-read_member : goal.decreases-read_member
decreases-read_member l = 3 * l.depth + 1

abbrev pub decreases-read_members : goal.decreases-read_members
decreases-read_members l = 3 * l.depth + 2

abbrev pub invariant-read_members-members : goal.invariant-read_members-members
invariant-read_members-members l = KeptSoFar l.level l.depth l.initial.reader l.reader (members_view l.kept.entries)

abbrev pub decreases-read_members-members : goal.decreases-read_members-members
decreases-read_members-members l = length l.reader
