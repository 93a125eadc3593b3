-- Proofs of `rejecting::rejection_left`: the result meets the contract.

use Rattle.verdicts.proofs.Prelude.{◌∙◌, Some, ap, arith}
use Rattle.verdicts.proofs.Left.{denied_left, undecided_left}
use Rattle.verdicts.proofs.Told.{allowed_left}
use Rattle.verdicts.proofs.rejecting.rejection_left.Goals as goal

pub returns-in-Skipped : goal.returns-in-Skipped
returns-in-Skipped g c v is within layout =
    let read = c.of_word.ensures in
    let first = c.word.ensures in
    let here = c.in-Skipped.is in
    allowed_left c.args.policy.now v (g.V.ValueStore.values c.args.values.now) (g.M.Regions.bytes c.args.memory.now) is layout
    (grind (arith, read, first, here))

pub returns-in_ok-undecided-in-Rejected : goal.returns-in_ok-undecided-in-Rejected
returns-in_ok-undecided-in-Rejected g c v is within layout =
    let read = c.of_word.ensures in
    let first = c.word.ensures in
    let here = c.in-Rejected.is in
    ap Some c.in_ok-undecided-in-Rejected.ensures
    ∙ undecided_left c.args.policy.now v (g.V.ValueStore.values c.args.values.now) (g.M.Regions.bytes c.args.memory.now) is layout
    (grind (arith, read, first, here))

pub returns-in_ok-denied_left-in-Denied : goal.returns-in_ok-denied_left-in-Denied
returns-in_ok-denied_left-in-Denied g c v is within layout =
    let read = c.of_word.ensures in
    let first = c.word.ensures in
    let here = c.in-Denied.is in
    denied_left c.args.policy.now v (g.V.ValueStore.values c.args.values.now) (g.M.Regions.bytes c.args.memory.now) _ is layout
    (grind (arith, read, first, here)) (c.in_ok-denied_left-in-Denied.ensures v is layout)
