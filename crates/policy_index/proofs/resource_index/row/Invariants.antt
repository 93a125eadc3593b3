-- Loop invariants of `resource_index::row`.
use Rattle.policy_index.proofs.Prelude.{◌≡◌, candidates, take, views}
use Rattle.policy_index.proofs.resource_index.row.Given as goal

abbrev pub invariant-loop-resources : goal.invariant-loop-resources
invariant-loop-resources l = l.row.items ≡ candidates (views (take l.resources-index l.constraints)) l.resource
