-- Proof obligations of `text_below` (src/order.rt).
use Rattle.value_store.proofs.Prelude.{sym, arith}
use Rattle.value_store.proofs.Orders.{Differs, differs}
use Rattle.value_store.proofs.order.text_below.Goals as goal
use Rattle.value_store.proofs.order.text_below.Goals.{After-first_difference-place}

known : (c : After-first_difference-place) → Differs c.args.left.now c.args.right.now c.first_difference-place.result
known c = grind (arith, differs)

pub returns-then-place-right : goal.returns-then-place-right
returns-then-place-right c = sym ((known (goal.at.returns-then-place-right c).After-first_difference-place).second_ends c.if-place-right.true)

pub returns-then-place-left : goal.returns-then-place-left
returns-then-place-left c =
    sym ((known (goal.at.returns-then-place-left c).After-first_difference-place).first_ends c.if-place-left.true c.if-place-right.false)

pub bounds-left-place : goal.bounds-left-place
bounds-left-place c = let known = known (goal.at.bounds-left-place c).After-first_difference-place in omega (arith, known.first_within)

pub bounds-right-place : goal.bounds-right-place
bounds-right-place c = let known = known (goal.at.bounds-right-place c).After-first_difference-place in omega (arith, known.second_within)

pub returns : goal.returns
returns c =
    let known = known (goal.at.returns c).After-first_difference-place in
    sym (known.apart 0 0 (omega (arith, known.first_within)) (omega (arith, known.second_within)))
