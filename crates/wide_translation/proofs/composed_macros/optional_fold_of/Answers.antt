-- Proof obligation of `composed_macros::optional_fold_of`.
use Rattle.wide_translation.specs.Carried.{OptionalValue}
use Rattle.wide_translation.specs.Declarations.{carried_view}
use Rattle.wide_translation.proofs.PartReturns.{same_list}
use Rattle.wide_translation.proofs.composed_macros.optional_fold_of.Goals as goal

pub returns-in-Ok : goal.returns-in-Ok
returns-in-Ok c u h =
    same_list OptionalValue (carried_view c.in-Ok.list) (carried_view c.args.of) _ _ c.in-Ok.ensures (c.folded_list.ensures u h)
