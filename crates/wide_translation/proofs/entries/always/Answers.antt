-- Proof obligation of `entries::always`.
use Rattle.cel_reader.specs.Tree.{view}
use Rattle.wide_kinds.specs.declared.kind.ValueKind.TheVariants as kind
use Rattle.wide_translation.specs.Declarations.{carried_view}
use Rattle.wide_translation.proofs.EntrySteps.{never_optional}
use Rattle.wide_translation.proofs.entries.always.Goals as goal

pub returns-in_default : goal.returns-in_default
returns-in_default c = λ _ ps. never_optional kind.Dyn (view c.args.key) (carried_view c.args.value) ps c.in_default.ensures
