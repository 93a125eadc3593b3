-- Proofs of `equality::alike::same_keys`: its calls meet their requirements.

use Rattle.value_table.proofs.Prelude.{arith}
use Rattle.value_table.proofs.Walks.{text_here}
use Rattle.value_table.proofs.equality.alike.same_keys.Goals as goal

pub same_text-requires-clause-left : goal.same_text-requires-clause-left
same_text-requires-clause-left c = text_here c.args.bytes.now c.args.left.now c.loop-i.i _ c.requires.left (omega arith)

pub same_text-requires-clause-right : goal.same_text-requires-clause-right
same_text-requires-clause-right c = text_here c.args.bytes.now c.args.right.now c.loop-i.i _ c.requires.right (omega arith)
