-- Loop measures of the functions of the cycle `value` (src/command.rt).
use Rattle.debugger.proofs.Prelude.{length}
use Rattle.debugger.proofs.command.+value.Given as goal

abbrev pub decreases-value : goal.decreases-value
decreases-value l = length l.digits.now
