-- Loop invariant of `named::variables`.
use Rattle.std.proofs.Common.{drop, map}
use Rattle.policy_glue.specs.Policy.{named_view}
use Rattle.wide_policy.proofs.Walks.{VariablesGo}
use Rattle.wide_policy.proofs.named.variables.Given as goal

abbrev pub invariant-loop-place : goal.invariant-loop-place
invariant-loop-place l = VariablesGo l.wrapped (map named_view l.named) (map named_view (drop l.place l.named)) l.place l.scope (map named_view l.taken.items)
