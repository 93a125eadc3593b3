-- Proof obligation of `composed::binary`.
use Rattle.wide_translation.proofs.PartReturns.{taken_part}
use Rattle.wide_translation.proofs.composed.binary.Goals as goal

pub returns-in-Ok : goal.returns-in-Ok
returns-in-Ok c t u h k =
    taken_part t c.args.left c.in-Ok.first _ _ c.in-Ok.is h (c.binary_of.ensures u k)
