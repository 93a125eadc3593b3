-- Loop invariant of `program::conditions::conditions`.

use Rattle.policy_code.proofs.Prelude.{◌≡◌, drop, map, core_view, with_conditions}
use Rattle.policy_code.proofs.program.conditions.conditions.Given as goal

abbrev pub invariant-loop-core : goal.invariant-loop-core
invariant-loop-core l = with_conditions l.failure_policy l.emitter (map core_view (drop l.core-index l.cores)) ≡ with_conditions l.failure_policy l.fn.emitter (map core_view l.cores)
