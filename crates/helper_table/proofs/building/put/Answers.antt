-- Proof obligations of `put` (src/building.rt).
use Rattle.helper_table.proofs.Prelude.{sym, ◌∙◌, Some, slice_get, put_in, entered, grown, put_row, on_operand}
use Rattle.helper_table.proofs.Depths.{grows}
use Rattle.helper_table.proofs.Entering.{enters, enters_by, is_put, put_there}
use Rattle.helper_table.proofs.Seeing.{by_operand, by_operands}
use Rattle.helper_table.proofs.building.put.Goals as goal

pub returns-clause-means : goal.returns-clause-means
unfolding put_row
returns-clause-means g c =
    let vs = g.V.ValueStore.values c.args.table.now in
    let map = slice_get vs c.args.m in
    let key = slice_get vs c.args.k in
    let part = slice_get vs c.args.x in
    let can = c.can_put.ensures ∙ enters map key part _ _ c.in_ok-key.ensures.sees c.in_ok-value.ensures.sees in
    c.growth.ensures.means vs
    ∙ grows (put_in map key part) (entered map key part) _ _ _ (is_put map key part) (enters_by map key part) can c.is_within_depth.ensures
    ∙ sym (by_operand map _ (λ s o. on_operand key (λ y. on_operand part (λ z. grown (entered o (Some y) (Some z))))) c.in_ok-_map.ensures.sees
    ∙ by_operands key part _ _ (λ s t o p. grown (entered map o p)) c.in_ok-key.ensures.sees c.in_ok-value.ensures.sees)

pub returns-clause-can : goal.returns-clause-can
returns-clause-can g c =
    let vs = g.V.ValueStore.values c.args.table.now in
    let map = slice_get vs c.args.m in
    let key = slice_get vs c.args.k in
    let part = slice_get vs c.args.x in
    let same = c.can_put.ensures ∙ enters map key part _ _ c.in_ok-key.ensures.sees c.in_ok-value.ensures.sees in
    c.growth.ensures.can vs (λ can. put_there map key part (sym same ∙ can))
