-- Proofs of `escaping::spread`: each byte is moved once.

use Rattle.std.proofs.Common.{◌≡◌, ◌+◌, ◌-◌, arith, subst, take}
use Rattle.verdicts.proofs.Escapes.{IsSpread, next_room, some_left, spread_end, spread_next}
use Rattle.verdicts.proofs.escaping.spread.Goals as goal

pub put-end-requires-clause-room : goal.put-end-requires-clause-room
put-end-requires-clause-room c =
    let some = some_left (take c.args.left c.args.text.now) c.loop-left.text c.loop-left.left c.loop-left.end c.loop-left.invariant c.loop-left-test.true in
    let same : c.loop-left.left ≡ c.loop-left.left - 1 + 1 = omega arith in
    next_room (take c.args.left c.args.text.now) c.loop-left.text (c.loop-left.left - 1) c.loop-left.end
    (rw same at c.loop-left.invariant)

pub loop-left-preserved : goal.loop-left-preserved
loop-left-preserved c =
    let text = take c.args.left c.args.text.now in
    let some = some_left text c.loop-left.text c.loop-left.left c.loop-left.end c.loop-left.invariant c.loop-left-test.true in
    let same : c.loop-left.left ≡ c.loop-left.left - 1 + 1 = omega arith in
    let is : IsSpread text c.loop-left.text (c.loop-left.left - 1 + 1) c.loop-left.end =
    subst (λ n. IsSpread text c.loop-left.text n c.loop-left.end) same c.loop-left.invariant in
    spread_next text c.loop-left.text _ (c.loop-left.left - 1) c.loop-left.end _ is c.put-end.ensures.len c.put-end.ensures.items

pub returns : goal.returns
returns c = spread_end (take c.args.left c.args.text.now) c.loop-left.text c.loop-left.left c.loop-left.end c.loop-left.invariant (omega arith)
