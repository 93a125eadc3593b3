-- Proofs of `documents::add_document`: the result meets the contract; each turn of the loop keeps the invariant.

use Rattle.value_table.proofs.Prelude.{◌≡◌, [], ◌∷◌, ◌++◌, length, map, string_bytes, ap, ap₂, ◌∙◌, subst, arith, rules, into_iter_items, map-append, nil_from_length, the_lemmas, view, items_view, members_view, plain_items, plain_entries, items_at, entries_of, values_at, heap_values}
use Rattle.value_store.specs.Value as kind
use Rattle.value_table.proofs.Growing.{ItemsStand, MembersStand, grown_more, enters, enters_on, items_step, items_end, members_step, members_end}
use Rattle.value_table.proofs.documents.+add_document.Goals as goal

pub add_items-loop-item-preserved : goal.add_items-loop-item-preserved
add_items-loop-item-preserved t c =
    let l = c.loop-item in
    let all = plain_items (items_view (into_iter_items c.into_iter-item-iterator.result)) in
    let step = c.in-Some.ensures.steps in
    let go = subst (λ ys. ItemsStand all (heap_values l.heap) l.places.items (items_view ys)) step.0 l.invariant.items in
    let added : c.push.new.self.items ≡ l.places.items ++ c.in_ok-at.at ∷ [] = search rules in
    let pushed = added ∙ ap (λ p. l.places.items ++ p ∷ []) c.in_ok-at.ensures in
    record {
      heap = c.add_document.ensures.heap;
      grown = grown_more _ _ _ l.invariant.grown c.add_document.ensures.grown;
      items = rw pushed (items_step all _ _ l.places.items c.in_ok-place.place (view c.in-Some.item) (items_view (into_iter_items c.next.new.self)) c.add_document.ensures.grown c.in_ok-place.ensures.value go);
      long = omega (arith, l.invariant.long, ap length step.0, step.1);
    }

pub add_items-returns : goal.add_items-returns
add_items-returns t c =
    let l = c.loop-item in
    let none = ap items_view (nil_from_length (into_iter_items l.item-iterator) (omega (arith, l.invariant.long, c.in-None.ensures.steps.0))) in
    let is = items_end _ (heap_values l.heap) l.places.items _ l.invariant.items none
    ∙ ap (λ ys. plain_items (items_view ys)) c.into_iter-item-iterator.ensures.into_iter_gives.0 in
    enters_on c.args.heap.now l.heap _ _ _ _ l.invariant.grown (ap kind.list (ap (items_at (heap_values l.heap)) c.deref.ensures.value ∙ is))
    (enters _ _ _ _ c.add_list.ensures)

pub add_members-loop-key-preserved : goal.add_members-loop-key-preserved
add_members-loop-key-preserved t c =
    let l = c.loop-key in
    let all = plain_entries (members_view c.into_iter-key-iterator.result) in
    let go = subst (λ ys. MembersStand all (heap_values l.heap) (map string_bytes l.keys.items) l.places.items (members_view ys)) c.in-Some.ensures.steps l.invariant.members in
    let key = c.in-Some.key in
    let named : map string_bytes c.push-in-loop-key.new.self.items ≡ map string_bytes l.keys.items ++ string_bytes key ∷ [] = ap (map string_bytes) c.in_ok-push-2.ensures.items ∙ map-append string_bytes l.keys.items (key ∷ []) in
    let added : c.push.new.self.items ≡ l.places.items ++ c.in_ok-at.at ∷ [] = search rules in
    let pushed = added ∙ ap (λ p. l.places.items ++ p ∷ []) c.in_ok-at.ensures in
    record {
      heap = c.add_document.ensures.heap;
      grown = grown_more _ _ _ l.invariant.grown c.add_document.ensures.grown;
      members = rw (named, pushed) (members_step all _ _ (map string_bytes l.keys.items) l.places.items c.in_ok-place.place (string_bytes key) (view c.in-Some.member) (members_view c.next.new.self)
          (record { grown = c.add_document.ensures.grown; value = c.in_ok-place.ensures.value }) go);
    }

pub add_members-returns : goal.add_members-returns
add_members-returns t c =
    let l = c.loop-key in
    let all : c.into_iter-key-iterator.result ≡ c.args.members.entries = search rules in
    let is = members_end _ (heap_values l.heap) (map string_bytes l.keys.items) l.places.items _ l.invariant.members (ap members_view c.in-None.ensures.steps.0)
    ∙ ap (λ ys. plain_entries (members_view ys)) all in
    let here = ap₂ (λ ks ps. entries_of (map string_bytes ks) (values_at (heap_values l.heap) ps)) c.deref.ensures.value c.deref-2.ensures.value in
    enters_on c.args.heap.now l.heap _ _ _ _ l.invariant.grown (ap kind.map (here ∙ is)) c.add_entries.ensures

pub add_document-returns-in-String : goal.add_document-returns-in-String
add_document-returns-in-String t c = let g = enters _ _ _ _ c.add_text.ensures in search (rules, the_lemmas, g)

pub add_items-returns-in_err-push : goal.add_items-returns-in_err-push
add_items-returns-in_err-push t c =
    record { heap = c.add_document.ensures.heap; grown = grown_more _ _ _ c.loop-item.invariant.grown c.add_document.ensures.grown; value = search rules }

pub add_members-returns-in_err-push : goal.add_members-returns-in_err-push
add_members-returns-in_err-push t c =
    record { heap = c.add_document.ensures.heap; grown = grown_more _ _ _ c.loop-key.invariant.grown c.add_document.ensures.grown; value = search rules }

pub add_members-returns-in_err-push-2 : goal.add_members-returns-in_err-push-2
add_members-returns-in_err-push-2 t c =
    record { heap = c.add_document.ensures.heap; grown = grown_more _ _ _ c.loop-key.invariant.grown c.add_document.ensures.grown; value = search rules }

pub add_items-returns-in_err-at : goal.add_items-returns-in_err-at
add_items-returns-in_err-at t c =
    record { heap = c.add_document.ensures.heap; grown = grown_more _ _ _ c.loop-item.invariant.grown c.add_document.ensures.grown; value = search rules }

pub add_members-returns-in_err-at : goal.add_members-returns-in_err-at
add_members-returns-in_err-at t c =
    record { heap = c.add_document.ensures.heap; grown = grown_more _ _ _ c.loop-key.invariant.grown c.add_document.ensures.grown; value = search rules }
