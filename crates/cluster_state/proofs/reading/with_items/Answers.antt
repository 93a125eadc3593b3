-- Proofs of `reading::with_items`: the loop invariant holds at first and is kept.

use Rattle.std.proofs.lemmas.List.Elements.{All-nil}
use Rattle.std.proofs.lemmas.Option.{slice_get-get_or, slice_get-map}
use Rattle.std.specs.Prelude.{slice_get}
use Rattle.json_fields.proofs.Items.{from_place}
use Rattle.cluster_state.specs.Items.{Item}
use Rattle.cluster_state.specs.Numbers.{AreNumbered, IsNumbered}
use Rattle.cluster_state.proofs.Adding.{AddGo, add_more}
use Rattle.cluster_state.proofs.Prelude.{◌+◌, ◌∙◌, List, Some, ap, drop, item_view, map, named_view, no_objects, objects_view, option_map, refl, subst, sym}
use Rattle.cluster_state.proofs.reading.with_items.Goals as goal

pub loop-item-init : goal.loop-item-init
loop-item-init c = record {
  number = refl;
  go = record { so_far = no_objects; are = λ d. ap named_view (c.new-objects.ensures d); left = refl };
  numbered = λ d. subst (AreNumbered (map item_view c.args.items.now)) (sym (c.new-objects.ensures d)) (All-nil (IsNumbered (map item_view c.args.items.now)));
}

pub loop-item-preserved : goal.loop-item-preserved
loop-item-preserved c =
    let all : List Item = map item_view c.args.items.now in
    let rest : List Item = map item_view (drop (c.loop-item.item-index + 1) c.args.items.now) in
    record {
      number = ap (λ i. i + 1) c.loop-item.invariant.number;
      go =
          add_more all rest (item_view c.item-item.result) (objects_view c.loop-item.objects) (objects_view c.add.new.self)
          (subst (λ (r : List Item). AddGo all r (objects_view c.loop-item.objects))
          (ap (map item_view) (from_place c.args.items.now c.loop-item.item-index c.item-item.result c.loop-item-test.true c.item-item.is)) c.loop-item.invariant.go)
          (sym c.if-not-branch.false ∙ c.in_ok-add.ensures.free) c.in_ok-add.ensures.added;
      numbered =
          c.in_ok-add.ensures.numbered all c.loop-item.invariant.numbered
          (ap (slice_get all) c.loop-item.invariant.number ∙ slice_get-map item_view c.args.items.now c.loop-item.item-index
          ∙ ap (option_map item_view) (slice_get-get_or c.args.items.now c.loop-item.item-index c.item-item.result c.loop-item-test.true ∙ ap Some (sym c.item-item.is)));
    }
