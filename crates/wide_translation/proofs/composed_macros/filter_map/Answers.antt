-- Proof obligation of `composed_macros::filter_map`.
use Rattle.wide_translation.proofs.PartReturns.{taken_part}
use Rattle.wide_translation.proofs.composed_macros.filter_map.Goals as goal

pub returns-in-Ok : goal.returns-in-Ok
returns-in-Ok c t u v h k l =
    taken_part t c.args.range c.in-Ok.of _ _ c.in-Ok.is h (c.filter_map_of.ensures u v k l)
