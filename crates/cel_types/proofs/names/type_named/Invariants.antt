-- Loop invariant of `names::type_named`.

use Rattle.cel_types.proofs.Prelude.{◌≡◌, map, drop, lookup, declaration, types_of}
use Rattle.cel_types.proofs.names.type_named.Given as goal

abbrev pub invariant-loop-variable : goal.invariant-loop-variable
invariant-loop-variable l = lookup l.name (types_of (map declaration l.variables)) ≡ lookup l.name (types_of (map declaration (drop l.variable-index l.variables)))
