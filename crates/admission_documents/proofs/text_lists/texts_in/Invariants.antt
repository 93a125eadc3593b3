-- Loop invariant of `text_lists::texts_in`.

use Rattle.admission_documents.proofs.Prelude.{drop, map, string_bytes, items_view, text_in}
use Rattle.json_fields.proofs.Items.{EachGo}
use Rattle.admission_documents.proofs.text_lists.texts_in.Given as goal

abbrev pub invariant-loop-item : goal.invariant-loop-item
invariant-loop-item l = EachGo text_in (items_view l.item-items) (items_view (drop l.item-index l.item-items)) (map string_bytes l.texts.items)
