-- Proof obligation of `composed::ternary`.
use Rattle.wide_translation.proofs.PartReturns.{taken_part}
use Rattle.wide_translation.proofs.composed.ternary.Goals as goal

pub returns-in-Ok : goal.returns-in-Ok
returns-in-Ok c t u v h k l =
    taken_part t c.args.condition c.in-Ok.test _ _ c.in-Ok.is h (c.ternary_of.ensures u v k l)
