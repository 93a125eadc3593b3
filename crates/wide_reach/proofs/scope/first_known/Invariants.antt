-- Loop invariant of `scope::first_known`.
use Rattle.std.proofs.Common.{◌≡◌, drop, map}
use Rattle.cel_macros.specs.Environment.{lookup}
use Rattle.wide_reach.specs.Scope.{known_view}
use Rattle.wide_reach.proofs.scope.first_known.Given as goal

abbrev pub invariant-loop-variable : goal.invariant-loop-variable
invariant-loop-variable l = lookup l.name (map known_view l.variables) ≡ lookup l.name (map known_view (drop l.variable-index l.variables))
