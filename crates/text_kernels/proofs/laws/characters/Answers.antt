-- Proof obligations of `characters` (src/laws.rt).
use Rattle.text_kernels.proofs.Scalars.{count, order}
use Rattle.text_kernels.proofs.laws.characters.Goals as goal

pub returns-clause-count : goal.returns-clause-count
returns-clause-count c = count

pub returns-clause-order : goal.returns-clause-order
returns-clause-order c = order
