-- Proof obligation of `composed::ternary_of`.
use Rattle.cel_reader.specs.Tree as node
use Rattle.wide_translation.specs.Declarations.{carried_view}
use Rattle.wide_translation.proofs.PartReturns.{plain_part}
use Rattle.wide_translation.proofs.composed.ternary_of.Goals as goal

pub returns : goal.returns
returns c u v h k =
    plain_part (carried_view c.args.condition) c.in-Some.field-0-0 (node.view c.in-Some.test) _ _ c.in-Some.ensures (c.branches.ensures u v h k)
