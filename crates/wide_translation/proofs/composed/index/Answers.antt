-- Proof obligation of `composed::index`.
use Rattle.wide_translation.proofs.PartReturns.{taken_part}
use Rattle.wide_translation.proofs.composed.index.Goals as goal

pub returns-in-Ok : goal.returns-in-Ok
returns-in-Ok c t u h k =
    taken_part t c.args.of c.in-Ok.inner _ _ c.in-Ok.is h (c.index_of.ensures u k)
