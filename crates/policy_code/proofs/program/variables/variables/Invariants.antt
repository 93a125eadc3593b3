-- Loop invariant of `program::variables::variables`.

use Rattle.policy_code.proofs.Prelude.{◌≡◌, drop, map, take, core_view, declaration, with_variables}
use Rattle.policy_code.proofs.program.variables.variables.Given as goal

abbrev pub invariant-loop-place : goal.invariant-loop-place
invariant-loop-place l =
    let declarations = map declaration l.declared in
    record {
      so_far : with_variables declarations l.place l.emitter (map core_view (drop l.place l.cores)) ≡ with_variables declarations 0 l.fn.emitter (map core_view l.cores);
      scope : l.scope ≡ take l.place declarations;
    }
