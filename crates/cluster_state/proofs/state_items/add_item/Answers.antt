-- Proof obligations of `state_items::add_item`.
use Rattle.cluster_state.proofs.Prelude.{◌≡◌, ◌∙◌, Some, ap, cond, get_by, is_eq, nat_cmp, ordering_then, slice_cmp}
use Rattle.cluster_state.specs.Items.{group_in}
use Rattle.cluster_state.specs.Shapes.{shape_cmp, shape_of, shape_with}
use Rattle.cluster_state.proofs.Shaped.{is_group, item_added, lent_place}
use Rattle.cluster_state.proofs.state_items.add_item.Goals as goal

pub returns : goal.returns
returns c k =
    let group : c.group_in.result.now ≡ group_in c.args.item.now.api_version.now = cc in
    item_added k c.args.item.now c.args.shapes.now c.with_item-shape.result _
    (c.in_ok-_old.ensures.updates.0 (lent_place k)
    ∙ ap (λ g. cond (is_eq (ordering_then (slice_cmp nat_cmp g (group_in k.api_version)) (slice_cmp nat_cmp c.args.item.now.kind.now k.kind))) (Some c.with_item-shape.result) (shape_of c.args.shapes.now k)) group
    ∙ ap (λ b. cond b (Some c.with_item-shape.result) (shape_of c.args.shapes.now k)) (is_group k c.args.item.now))
    (c.with_item-shape.ensures
    ∙ ap (λ o. shape_with o c.args.item.now) (c.copied.ensures ∙ c.get.ensures.value ∙ ap (λ g. get_by (shape_cmp g c.args.item.now.kind.now) c.args.shapes.now) group))
