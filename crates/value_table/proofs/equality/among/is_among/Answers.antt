-- Proofs of `equality::among::is_among`: the result meets the contract; each turn of the loop keeps the invariant.

use Rattle.value_table.proofs.Prelude.{sym, ◌∙◌, arith, value_in}
use Rattle.value_table.proofs.Comparisons.{item_step}
use Rattle.value_table.proofs.equality.among.is_among.Goals as goal

pub returns-then-is_equal : goal.returns-then-is_equal
returns-then-is_equal c = λ vs k s.
    let inv = c.loop-i.invariant vs k s in
    let here = c.is_equal.ensures vs k inv.0 in
    (here.0, sym (inv.1 ∙ item_step vs (value_in vs c.args.x) c.args.places.now c.loop-i.i _ (omega arith) (sym c.if-is_equal.true ∙ here.1)))

pub loop-i-preserved : goal.loop-i-preserved
loop-i-preserved c = λ vs k s.
    let inv = c.loop-i.invariant vs k s in
    let here = c.is_equal.ensures vs k inv.0 in
    (here.0, inv.1 ∙ item_step vs (value_in vs c.args.x) c.args.places.now c.loop-i.i _ (omega arith) (sym c.if-is_equal.false ∙ here.1))
