-- Proof obligation of `composed_macros::fold`.
use Rattle.wide_translation.proofs.PartReturns.{taken_part}
use Rattle.wide_translation.proofs.composed_macros.fold.Goals as goal

pub returns-in-Ok : goal.returns-in-Ok
returns-in-Ok c t u h k =
    taken_part t c.args.range c.in-Ok.of _ _ c.in-Ok.is h (c.fold_of.ensures u k)
