-- Loop invariant of `variable_depth::depth_named`.

use Rattle.cel_measures.proofs.Prelude.{◌≡◌, map, drop, lookup, declaration, depths_of}
use Rattle.cel_measures.proofs.variable_depth.depth_named.Given as goal

abbrev pub invariant-loop-variable : goal.invariant-loop-variable
invariant-loop-variable l = lookup l.name (depths_of (map declaration l.variables)) ≡ lookup l.name (depths_of (map declaration (drop l.variable-index l.variables)))
