-- Proof obligations of `numbered` (src/helper.rt).
use Rattle.helper_table.proofs.Numbers.{numbered_at}
use Rattle.helper_table.proofs.helper.numbered.Goals as goal

pub returns-then-number : goal.returns-then-number
returns-then-number c = numbered_at _ _ c.if-number-ge1.true c.if-number.true
