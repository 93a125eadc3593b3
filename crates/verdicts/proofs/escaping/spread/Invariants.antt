-- Loop invariant of `escaping::spread`.

use Rattle.std.proofs.Common.{take}
use Rattle.verdicts.proofs.Escapes.{IsSpread}
use Rattle.verdicts.proofs.escaping.spread.Given as goal

abbrev pub invariant-loop-left : goal.invariant-loop-left
invariant-loop-left l = IsSpread (take l.fn.left l.fn.text) l.text l.left l.end

abbrev pub decreases-loop-left : goal.decreases-loop-left
decreases-loop-left l = l.left
