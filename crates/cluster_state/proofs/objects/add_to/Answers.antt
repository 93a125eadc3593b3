-- Proofs of `objects::add_to`: the result meets the contract.

use Rattle.cluster_state.proofs.Prelude.{◌∙◌, ◌≡◌, None, Some, ap, bytes_eq, collection_cmp, cond, entries_in, get_by, insert_entry, is_collection, is_some, item_view, lookup, named_in, named_view, nat_cmp, not, option_map, option_map_or, slice_cmp, subst, sym, view, [], if◌then◌else◌}
use Rattle.cluster_state.specs.Numbers.{AreNumbered}
use Rattle.cluster_state.proofs.Placed.{found_in_both, inserted, is_place, lent, named_either, not_back, numbered_either, numbered_more, refilled}
use Rattle.cluster_state.proofs.objects.add_to.Goals as goal

pub returns-clause-free : goal.returns-clause-free
returns-clause-free c =
    let here : c.named_or_new-objects.result.entries ≡ entries_in c.args.collections.now (item_view c.args.item.now).collection =
    c.named_or_new-objects.ensures ∙ ap (λ o. option_map_or (λ m. m.entries) o []) c.remove.ensures.value
    in not_back _ _ c.is_none.ensures
    ∙ ap not
    (ap is_some c.in_ok-old.ensures.old ∙ found_in_both c.args.item.now.name.now c.named_or_new-objects.result.entries
    ∙ ap (λ x. is_some (lookup (bytes_eq c.args.item.now.name.now) (named_view x))) here)

pub returns-clause-added : goal.returns-clause-added
returns-clause-added c = λ d.
    let place = (item_view c.args.item.now).collection in
    let here : c.named_or_new-objects.result.entries ≡ entries_in c.args.collections.now place =
    c.named_or_new-objects.ensures ∙ ap (λ o. option_map_or (λ m. m.entries) o []) c.remove.ensures.value
    in ap named_view
    (refilled (λ m. m.entries) (is_collection place d) c.insert.new.self _ _ _
    (c.in_ok-insert.ensures.updates.0 (lent d) ∙ ap (λ b. cond b (Some c.insert.new.self) (get_by (collection_cmp d) c.remove.new.self)) (is_place place d))
    (c.remove.ensures.updates.0 (lent d) ∙ ap (λ b. cond b None (get_by (collection_cmp d) c.args.collections.now)) (is_place place d)))
    ∙ named_either (is_collection place d) c.insert.new.self.entries (entries_in c.args.collections.now d)
    ∙ ap (λ x. if is_collection place d then x else named_in c.args.collections.now d)
    (ap named_view c.in_ok-old.ensures.entries ∙ inserted c.named_or_new-objects.result.entries c.args.item.now.name _
    ∙ ap (λ x. insert_entry (slice_cmp nat_cmp) (named_view x) c.args.item.now.name.now (view c.args.item.now.document.now)) here)

pub returns-clause-numbered : goal.returns-clause-numbered
returns-clause-numbered c = λ is has at d.
    let place = (item_view c.args.item.now).collection in
    let here : c.named_or_new-objects.result.entries ≡ entries_in c.args.collections.now place =
    c.named_or_new-objects.ensures ∙ ap (λ o. option_map_or (λ m. m.entries) o []) c.remove.ensures.value
    in subst (AreNumbered is)
    (sym (refilled (λ m. m.entries) (is_collection place d) c.insert.new.self _ _ _
    (c.in_ok-insert.ensures.updates.0 (lent d) ∙ ap (λ b. cond b (Some c.insert.new.self) (get_by (collection_cmp d) c.remove.new.self)) (is_place place d))
    (c.remove.ensures.updates.0 (lent d) ∙ ap (λ b. cond b None (get_by (collection_cmp d) c.args.collections.now)) (is_place place d))))
    (numbered_either is (is_collection place d) c.insert.new.self.entries (entries_in c.args.collections.now d)
    (numbered_more is c.named_or_new-objects.result.entries c.insert.new.self.entries c.args.item.now.name _ c.in_ok-old.ensures.entries
    (subst (AreNumbered is) (sym here) (has place)) (ap (option_map (λ i. i.document)) at))
    (has d))
