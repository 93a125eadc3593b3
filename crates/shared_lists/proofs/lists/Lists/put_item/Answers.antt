-- Proofs of `lists::Lists::put_item`: the result meets the contract.

use Rattle.shared_lists.proofs.Prelude.{◌≡◌, ◌+◌, [], ◌∷◌, ◌++◌, ◌∙◌, ap, get_or, take, with_one}
use Rattle.shared_lists.proofs.Pushed.{items_pushed, items_behind, length_one}
use Rattle.shared_lists.proofs.lists.Lists.put_item.Goals as goal

pub returns-then-items-place-clause-grown : goal.returns-then-items-place-clause-grown
returns-then-items-place-clause-grown c = items_pushed c.args.self.now _ c.args.row (c.args.item ∷ []) c.in_ok-push_item.ensures.ok

pub returns-clause-items : goal.returns-clause-items
returns-clause-items c =
    let lists = c.args.self.now in
    let here : c.items-items.result.now ≡ get_or lists c.args.row [] = c.items-items.ensures.value in
    let more : c.in_ok-more.more ≡ with_one c.args.place c.args.item (take c.args.count (get_or lists c.args.row [])) = c.in_ok-more.ensures ∙ ap (λ xs. with_one c.args.place c.args.item (take c.args.count xs)) here in
    items_behind lists c.push.new.self _ (c.args.count + 1) _ (c.in_ok-new.ensures ∙ c.len.ensures) (length_one (get_or lists c.args.row []) c.args.count c.args.place c.args.item c.requires.place c.requires.long) (c.in_ok-push.ensures.ok ∙ ap (λ xs. lists ++ xs ∷ []) more)
