-- Names and variables of the code as plain data.
use Rattle.std.specs.Prelude.{ℕ, Bool, List, map, string_bytes}
use Rattle.wide_reach.specs.Known.{KnownNames, binding, outside}
use Rattle.wide_reach.specs.declared.scope.KnownVariable.{KnownVariable}
use Rattle.wide_reach.specs.declared.scope.Scope.{Scope}
use Rattle.wide_reach.specs.declared.scope.Scope.TheOpen.{Scope-F}
use Rattle.wide_reach.specs.declared.scope.Scope.TheOpen as layer
use Rattle.wide_reach.specs.declared.scope.Scope.TheFolds.{fold-Scope}

-- a variable, and whether it has a reach
abbrev pub known_view : KnownVariable → List ℕ × Bool
known_view v = (string_bytes v.name, v.has_reach)

-- one layer of names, and what is known of those around it
abbrev pub scope_step : Scope-F KnownNames → KnownNames
scope_step (layer.Outside variables) = outside (map known_view variables.now)
scope_step (layer.Within n b outer) = binding n.now b outer.now

-- what is known of the names of a scope
abbrev pub names_in : Scope → KnownNames
names_in = fold-Scope KnownNames scope_step
