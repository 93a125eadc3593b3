-- Proofs of `heap::Heap::push`: the result meets the contract.

use Rattle.value_table.proofs.Prelude.{◌≡◌, ◌+◌, [], ◌∷◌, ◌++◌, ◌∙◌, ap, arith, max, subst, Some, refs_at, heap_values, HoldsItems}
use Rattle.value_table.specs.declared.content.Content.TheVariants as cell
use Rattle.value_table.proofs.Adding.{content_is, content_last, gained, shared_put}
use Rattle.value_table.proofs.Counted.{counted}
use Rattle.value_table.proofs.Listed.{ListCell, list_pushed, made_by}
use Rattle.value_table.proofs.heap.Heap.push.Goals as goal

pub returns-clause-gained : goal.returns-clause-gained
returns-clause-gained c =
    let l = c.cell-list.result in
    let x = c.cell-item.result in
    let deep : c.max-depth.result ≡ max l.depth (x.depth + 1) =
    omega (arith, c.saturating_add.ensures, c.max-depth.ensures, c.cell-item.ensures.found.shallow, c.cell-item.ensures.short) in
    let list : ListCell c.args.self.now.backings (heap_values c.args.self.now) c.args.l c.in-List.backing c.in-List.count = record { cell = l; found = c.cell-list.ensures.found; is = c.in-List.is } in
    let rs = refs_at c.args.self.now.backings.lists c.in-List.backing c.in-List.count in
    let holds = subst (λ p. HoldsItems c.push_item.new.self.lists c.in_ok-pushed.pushed (c.in-List.count + 1) (rs ++ p ∷ [])) c.in_ok-place.ensures c.in_ok-pushed.ensures.items in
    let made = counted (ap (cell.List c.in_ok-pushed.pushed) c.in_ok-longer.ensures) (made_by deep c.pushed_length-json.ensures
    (list_pushed c.args.self.now.backings c.push_item.new.self _ c.args.l c.args.x c.in-List.backing c.in-List.count c.in_ok-pushed.pushed x list c.cell-item.ensures.found holds)) in
    gained c.args.self.now _ _ _ _ _ c.requires.heap c.push_item.ensures.grown
    (record { words = c.room_for_cell.ensures.words; fits = c.in_ok-cells.ensures.word; same = c.in_ok-cells.ensures.cells; cells = c.append.ensures.items; at = c.append.ensures.place })
    made

pub returns-clause-shared : goal.returns-clause-shared
returns-clause-shared c =
    shared_put c.args.self.now c.push_item.new.self _ c.args.l c.in-List.backing c.in-List.count c.in_ok-pushed.pushed c.append.result
    (content_is c.args.self.now.cells c.cell-list.result c.args.l _ c.cell-list.ensures.is c.in-List.is) (content_last _ _ _ _ c.append.ensures.items c.append.ensures.place ∙ ap (λ n. Some (cell.List c.in_ok-pushed.pushed n)) c.in_ok-longer.ensures)
    c.in_ok-pushed.ensures.shared
