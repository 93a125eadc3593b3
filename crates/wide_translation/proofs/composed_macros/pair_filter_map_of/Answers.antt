-- Proof obligation of `composed_macros::pair_filter_map_of`.
use Rattle.wide_translation.proofs.PartReturns.{taken_part}
use Rattle.wide_translation.proofs.composed_macros.pair_filter_map_of.Goals as goal

pub returns-in-Ok : goal.returns-in-Ok
returns-in-Ok c u v h k =
    taken_part u c.args.predicate c.in-Ok.test _ _ c.in-Ok.is h (c.pair_filtered.ensures v k)
