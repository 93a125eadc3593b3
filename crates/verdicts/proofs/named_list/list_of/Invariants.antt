-- Loop invariant of `named_list::list_of`.

use Rattle.verdicts.proofs.Prelude.{drop, map, items_view, named_view, named_in}
use Rattle.json_fields.proofs.Items.{EachGo}
use Rattle.verdicts.proofs.named_list.list_of.Given as goal

abbrev pub invariant-loop-item : goal.invariant-loop-item
invariant-loop-item l = EachGo (named_in l.rule) (items_view l.item-items) (items_view (drop l.item-index l.item-items)) (map named_view l.list.items)
