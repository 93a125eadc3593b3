-- Proof obligations of `one_tree` (src/laws.rt).
use Rattle.wide_reader.proofs.Told.{one_wide}
use Rattle.wide_reader.proofs.laws.one_tree.Goals as goal

pub returns-clause-text : goal.returns-clause-text
returns-clause-text c = one_wide
