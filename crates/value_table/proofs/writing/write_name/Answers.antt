-- Proofs of `writing::write_name`: its calls meet their requirements.

use Rattle.value_table.proofs.Prelude.{arith}
use Rattle.value_table.proofs.Walks.{text_here}
use Rattle.value_table.proofs.writing.write_name.Goals as goal

pub text-requires : goal.text-requires
text-requires c = rw c.items.ensures.value (text_here c.args.backings.now.bytes c.args.names.now c.args.place _ c.requires (omega arith))

pub read-requires : goal.read-requires
read-requires c = rw (c.text.ensures, c.items.ensures.value) (text_here c.args.backings.now.bytes c.args.names.now c.args.place _ c.requires (omega arith)).2
