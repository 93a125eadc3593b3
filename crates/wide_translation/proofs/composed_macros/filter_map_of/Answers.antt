-- Proof obligation of `composed_macros::filter_map_of`.
use Rattle.cel_reader.specs.Tree as node
use Rattle.wide_translation.specs.Declarations.{carried_view}
use Rattle.wide_translation.proofs.PartReturns.{plain_part, taken_part}
use Rattle.wide_translation.proofs.composed_macros.filter_map_of.Goals as goal

pub returns-in-Ok : goal.returns-in-Ok
returns-in-Ok c u v h k =
    plain_part (carried_view c.args.range) c.in-Some.field-0-0 (node.view c.in-Some.of) _ _ c.in-Some.ensures
    (taken_part u c.args.predicate c.in-Ok.test _ _ c.in-Ok.is h (c.filtered.ensures v k))
