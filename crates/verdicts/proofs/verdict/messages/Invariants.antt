-- Loop invariant of `verdict::messages`.

use Rattle.verdicts.proofs.Prelude.{map, option_map, message_at, part_limit}
use Rattle.verdicts.proofs.Lists.{IsFilled}
use Rattle.verdicts.proofs.verdict.messages.Given as goal

abbrev pub invariant-loop-i : goal.invariant-loop-i
invariant-loop-i g l =
    IsFilled (message_at (g.M.Regions.bytes l.memory) (g.V.ValueStore.values l.values) l.i) part_limit (map (option_map (λ t. t.now)) l.messages)
