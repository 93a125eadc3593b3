-- Proofs of `members::key_order`: the result meets the contract.

use Rattle.value_table.proofs.Prelude.{arith}
use Rattle.review_tables.proofs.Membered.{first_decides}
use Rattle.review_tables.proofs.members.key_order.Goals as goal

pub returns : goal.returns
returns c = first_decides c.as_bytes-a.result.now c.as_bytes-b.result.now c.args.key.now c.args.other.now c.cmp-2.result c.as_bytes-a.ensures.value c.as_bytes-b.ensures.value (omega arith) (omega arith) (λ e. absurd (omega (arith, e))) c.cmp-2.ensures
