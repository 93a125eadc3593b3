-- The iteration names in scope, and the scope of these names and variables.
use Rattle.std.specs.Prelude.{ℕ, List, [], ◌∷◌, map}
use Rattle.cel_types.specs.declared.iterations.Iterations.{Iterations}
use Rattle.cel_types.specs.declared.iterations.Iterations.TheOpen.{Iterations-F}
use Rattle.cel_types.specs.declared.iterations.Iterations.TheOpen as layer
use Rattle.cel_types.specs.declared.iterations.Iterations.TheFolds.{fold-Iterations}
use Rattle.cel_types.specs.declared.variable.Variable.{Variable}
use Rattle.cel_types.specs.Scope.{Scope}
use Rattle.cel_types.specs.Declarations.{declaration, types_of}

-- one layer, and the names of the macros around it
abbrev pub names_step : Iterations-F (List (List ℕ)) → List (List ℕ)
names_step layer.Outside = []
names_step (layer.Within n outer) = n.now ∷ outer.now

-- the names, the innermost first
abbrev pub names_of : Iterations → List (List ℕ)
names_of = fold-Iterations (List (List ℕ)) names_step

-- the scope inside the macros that declare these names, with these variables
abbrev pub scope_within : Iterations → List Variable → Scope
scope_within names variables = record { items = names_of names; variables = types_of (map declaration variables) }
