-- Proof obligation of `composed_calls::sets`.
use Rattle.wide_translation.proofs.PartReturns.{taken_part}
use Rattle.wide_translation.proofs.composed_calls.sets.Goals as goal

pub returns-in-Ok : goal.returns-in-Ok
returns-in-Ok c t u h k =
    taken_part t c.args.first c.in-Ok.list _ _ c.in-Ok.is h (c.sets_of.ensures u k)
