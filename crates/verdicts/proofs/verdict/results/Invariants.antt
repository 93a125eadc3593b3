-- Loop invariant of `verdict::results`.

use Rattle.verdicts.proofs.Prelude.{part_limit, result_at}
use Rattle.verdicts.proofs.Lists.{IsFilled}
use Rattle.verdicts.proofs.verdict.results.Given as goal

abbrev pub invariant-loop-i : goal.invariant-loop-i
invariant-loop-i g l = IsFilled (result_at (g.M.Regions.bytes l.memory) l.i) part_limit l.results
