-- Proofs of `verdict::results`: the loop sets the results that count.

use Rattle.verdicts.proofs.Prelude.{◌+◌, part_limit, first_result, verdict_word}
use Rattle.verdicts.proofs.Lists.{none_filled}
use Rattle.verdicts.proofs.verdict.results.Goals as goal

pub loop-i-init : goal.loop-i-init
loop-i-init g c = none_filled (λ k. verdict_word (g.M.Regions.bytes c.args.memory.now) (first_result + k)) 0 part_limit
