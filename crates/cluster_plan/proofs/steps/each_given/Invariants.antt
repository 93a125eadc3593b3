-- Loop invariants of `steps::each_given`.
use Rattle.cluster_plan.proofs.Prelude.{◌≡◌, ◌++◌, Some, drop, map}
use Rattle.cluster_plan.proofs.steps.each_given.Given as goal

abbrev pub invariant-loop-object : goal.invariant-loop-object
invariant-loop-object l = l.params.items ++ map Some (drop l.object-index l.objects) ≡ map Some l.objects
