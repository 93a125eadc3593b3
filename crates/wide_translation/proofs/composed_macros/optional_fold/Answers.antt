-- Proof obligation of `composed_macros::optional_fold`.
use Rattle.wide_translation.proofs.PartReturns.{taken_part}
use Rattle.wide_translation.proofs.composed_macros.optional_fold.Goals as goal

pub returns-in-Ok : goal.returns-in-Ok
returns-in-Ok c t u h k =
    taken_part t c.args.of c.in-Ok.operand _ _ c.in-Ok.is h (c.optional_fold_of.ensures u k)
