-- Proof obligations of `tells_all` (src/laws.rt).
use Rattle.debugger.proofs.Marks.{tells_all}
use Rattle.debugger.proofs.laws.tells_all.Goals as goal

pub returns : goal.returns
returns c = tells_all
