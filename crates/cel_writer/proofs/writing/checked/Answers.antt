-- Proof obligations of `writing::checked`.
use Rattle.std.proofs.Common.{◌∙◌, refl, sym}
use Rattle.cel_reader.specs.Tree.{view}
use Rattle.cel_writer.proofs.Compared.{not_same, same_is}
use Rattle.cel_writer.proofs.writing.checked.Goals as goal

pub returns-then-is_same : goal.returns-then-is_same
returns-then-is_same c = (refl, same_is (view c.args.back.now) (view c.args.e.now) (sym c.is_same.ensures ∙ c.if-is_same.true))

pub returns-else-is_same : goal.returns-else-is_same
returns-else-is_same c = not_same (view c.args.back.now) (view c.args.e.now) (sym c.is_same.ensures ∙ c.if-is_same.false)
