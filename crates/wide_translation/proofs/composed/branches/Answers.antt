-- Proof obligation of `composed::branches`.
use Rattle.wide_translation.proofs.PartReturns.{taken_part}
use Rattle.wide_translation.proofs.composed.branches.Goals as goal

pub returns-in-Ok : goal.returns-in-Ok
returns-in-Ok c u v h k =
    taken_part u c.args.yes c.in-Ok.first _ _ c.in-Ok.is h (c.branch-alloc.ensures v k)
