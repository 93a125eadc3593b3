-- Proofs of `heap::Heap::member`: its calls meet their requirements.

use Rattle.value_table.proofs.Prelude.{subst, arith, IsContent}
use Rattle.value_table.proofs.Looked.{widen}
use Rattle.value_table.proofs.heap.Heap.member.Goals as goal

pub has_item-requires-clause-items : goal.has_item-requires-clause-items
has_item-requires-clause-items c =
    let heap = c.args.self.now in
    let f = c.cell.ensures.found in
    widen heap.backings.lists c.args.c _ c.in-List.backing c.in-List.count (omega arith) (subst (IsContent heap.backings c.args.c) c.in-List.is f.content)
