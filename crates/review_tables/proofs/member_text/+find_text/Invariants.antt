-- Loop invariants and the termination measures of `member_text::find_text`.

use Rattle.value_table.proofs.Prelude.{◌+◌, length, option_map}
use Rattle.std.proofs.Common.{◌*◌, map}
use Rattle.review_tables.proofs.MemberTexts.{FoundTextSoFar}
use Rattle.review_tables.proofs.member_text.+find_text.Given as goal

abbrev pub decreases-find_text : goal.decreases-find_text
decreases-find_text l = 4 * length l.keys.now

abbrev pub decreases-text_in_token : goal.decreases-text_in_token
decreases-text_in_token l = 4 * length l.rest.now + 3

abbrev pub decreases-text_in_members : goal.decreases-text_in_members
decreases-text_in_members l = 4 * length l.rest.now + 2

abbrev pub decreases-text_in_next : goal.decreases-text_in_next
decreases-text_in_next l = 4 * length l.rest.now + 1

abbrev pub invariant-text_in_members-members : goal.invariant-text_in_members-members
invariant-text_in_members-members l = FoundTextSoFar l.depth l.key (map (λ s. s.now) l.rest) l.initial.reader l.reader (option_map (λ s. s.now) l.found)

abbrev pub decreases-text_in_members-members : goal.decreases-text_in_members-members
decreases-text_in_members-members l = length l.reader
