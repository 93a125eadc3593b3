-- Loop invariant of `kind_named` (src/names.rt).
use Rattle.std.proofs.Common.{◌≡◌, map, drop}
use Rattle.cel_macros.specs.Environment.{lookup}
use Rattle.wide_translation.specs.Declarations.{declaration}
use Rattle.wide_translation.proofs.names.kind_named.Given as goal

abbrev pub invariant-loop-variable : goal.invariant-loop-variable
invariant-loop-variable l = lookup l.name (map declaration l.variables) ≡ lookup l.name (map declaration (drop l.variable-index l.variables))
