-- Proof obligations of `perform` (src/calling.rt).
use Rattle.helper_table.proofs.Prelude.{err_from_is_err_and}
use Rattle.helper_table.proofs.Performing.{kept, effect_adds}
use Rattle.helper_table.proofs.calling.perform.Goals as goal

pub returns-in_err-word-clause-ends : goal.returns-in_err-word-clause-ends
returns-in_err-word-clause-ends g c =
    let vs = g.V.ValueStore.values c.args.table.now in
    let placement = c.args.effect.placement in
    let added = c.args.effect.added in
    let same = kept vs _ (g.V.ValueStore.charge c.args.table.now) added _ _ (effect_adds vs placement added) (c.in_err-word.ensures.done added) in
    let p = err_from_is_err_and c.from_residual.result c.from_residual.ensures.1 in
    rw (p.1) (λ i. record { values = same i; charge = c.in_err-word.ensures.charge i })
