-- Proof obligations of `push` (src/building.rt).
use Rattle.helper_table.proofs.Prelude.{sym, ◌∙◌, slice_get, pushed, grown, push_row}
use Rattle.helper_table.proofs.Depths.{grows, push_depth_at}
use Rattle.helper_table.proofs.Pairs.{push_pair}
use Rattle.helper_table.proofs.Seeing.{by_operands}
use Rattle.helper_table.proofs.building.push.Goals as goal

pub returns-clause-means : goal.returns-clause-means
unfolding push_row
returns-clause-means g c =
    let vs = g.V.ValueStore.values c.args.table.now in
    let l = slice_get vs c.args.l in
    let x = slice_get vs c.args.x in
    let can = c.can_push.ensures ∙ push_pair l x _ _ c.in_ok-list.ensures.sees c.in_ok-item.ensures.sees in
    c.growth.ensures.means vs
    ∙ grows (pushed l x) (pushed l x) _ _ _ (λ w e. e) (λ there. record { is = push_depth_at l x }) can c.is_within_depth.ensures
    ∙ sym (by_operands l x _ _ (λ s t o p. grown (pushed o p)) c.in_ok-list.ensures.sees c.in_ok-item.ensures.sees)

pub returns-clause-can : goal.returns-clause-can
returns-clause-can g c =
    c.growth.ensures.can _ (λ can. sym (c.can_push.ensures ∙ push_pair _ _ _ _ c.in_ok-list.ensures.sees c.in_ok-item.ensures.sees) ∙ can)
