-- Loop measures of the functions of the cycle `address` (src/command.rt).
use Rattle.debugger.proofs.Prelude.{length}
use Rattle.debugger.proofs.command.+address.Given as goal

abbrev pub decreases-address : goal.decreases-address
decreases-address l = length l.line.now
