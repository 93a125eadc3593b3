-- Proofs of `lengths::digits`: the result meets the contract; the loop invariant holds at first and is kept.

use Rattle.value_table.proofs.Prelude.{arith, length-decimal-le}
use Rattle.value_table.proofs.TextLengths.{decimal_long, rest_step}
use Rattle.value_table.proofs.lengths.digits.Goals as goal

pub loop-rest-init : goal.loop-rest-init
loop-rest-init c = grind (arith, decimal_long)

pub loop-rest-preserved : goal.loop-rest-preserved
loop-rest-preserved c =
    let r = rest_step c.loop-rest.rest (omega arith) (omega arith) in
    let s = length-decimal-le 20 c.args.n (omega arith) (omega arith) (omega arith) in
    record { counted = omega (arith, c.loop-rest.invariant.counted, r, s, c.saturating_add-count.ensures); small = omega arith }

pub returns-clause-short : goal.returns-clause-short
returns-clause-short c = grind (arith, decimal_long, rest_step, length-decimal-le)
