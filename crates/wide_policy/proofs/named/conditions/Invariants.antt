-- Loop invariant of `named::conditions`.
use Rattle.std.proofs.Common.{drop, map}
use Rattle.policy_glue.specs.Policy.{named_view}
use Rattle.wide_policy.proofs.Walks.{ConditionsGo}
use Rattle.wide_policy.proofs.named.conditions.Given as goal

abbrev pub invariant-loop-place : goal.invariant-loop-place
invariant-loop-place l = ConditionsGo l.wrapped (map named_view l.named) (map named_view (drop l.place l.named)) l.place (map named_view l.taken.items)
