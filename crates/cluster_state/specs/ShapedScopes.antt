-- The scope of a kind, by definitions and by what the items of a state show.
use Rattle.std.specs.Prelude.{Option, Some, None, if◌then◌else◌}
use Rattle.cluster_state.specs.Params.{KnownKind, if_placed, with_scope}
use Rattle.cluster_state.specs.Policies.{ParamKind}
use Rattle.cluster_state.specs.declared.param_scope.ParamScope.{ParamScope}
use Rattle.cluster_state.specs.declared.param_scope.ParamScope.TheVariants.{Namespaced, Cluster}
use Rattle.cluster_state.specs.Shapes.{differs_from, is_spaced}
use Rattle.cluster_state.specs.declared.shape.Shape.{Shape}

-- the scope that the items show
abbrev pub scope_shown : Option Shape → Option ParamScope
scope_shown (Some s) = if s.is_namespaced then Some Namespaced else Some Cluster
scope_shown None = None

-- the scope by a definition, or else by what the items show
abbrev pub scope_or_shown : Option (Option ParamScope) → Option Shape → Option ParamScope
scope_or_shown (Some scope) s = scope
scope_or_shown None s = scope_shown s

-- the kind with its scope, if no item has another version or is in a namespace that the kind has not
abbrev pub kind_from : ParamKind → Option Shape → Option (Option ParamScope) → Option KnownKind
kind_from k s defined = if differs_from k s then None else with_scope k (if_placed (is_spaced s) (scope_or_shown defined s))
