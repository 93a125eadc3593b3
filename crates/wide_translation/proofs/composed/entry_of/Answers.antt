-- Proof obligation of `composed::entry_of`.
use Rattle.cel_reader.specs.Tree as node
use Rattle.wide_translation.specs.Declarations.{carried_view}
use Rattle.wide_translation.proofs.PartReturns.{entry_plain}
use Rattle.wide_translation.proofs.composed.entry_of.Goals as goal

pub returns : goal.returns
returns c u h =
    entry_plain c.args.access (carried_view c.args.key) c.in-Some.field-0-0 (node.view c.in-Some.tree) u _ c.in-Some.ensures (c.entry_with.ensures u h)
