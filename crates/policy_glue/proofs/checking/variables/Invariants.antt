-- Loop invariant of `checking::variables`.

use Rattle.policy_glue.proofs.Prelude.{drop, map, core_view, named_view}
use Rattle.policy_glue.proofs.Judged.{VariablesGo}
use Rattle.policy_glue.proofs.checking.variables.Given as goal

abbrev pub invariant-loop-place : goal.invariant-loop-place
invariant-loop-place l = VariablesGo (map named_view l.named) (map named_view (drop l.place l.named)) l.place l.scope (map core_view l.cores.items)
