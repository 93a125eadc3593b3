-- What reading a binding or a policy means for the state.
use Rattle.std.specs.Prelude.{ℕ, List, Option, Some, None, Result, Ok, Err}
use Rattle.cluster_state.specs.Bindings.{Binding}
use Rattle.cluster_state.specs.Policies.{BoundPolicy}
use Rattle.cluster_state.specs.Refusals.{Refusal, invalid_binding, invalid_policy}
use Rattle.cluster_state.specs.declared.binding_part.BindingPart.{BindingPart}

-- a binding, or the refusal because of its part
abbrev pub or_invalid_binding : List ℕ → Result Binding BindingPart → Result Binding Refusal
or_invalid_binding name (Ok b) = Ok b
or_invalid_binding name (Err p) = Err (invalid_binding name p)

-- a policy, or the refusal because of it
abbrev pub or_invalid_policy : List ℕ → Option BoundPolicy → Result BoundPolicy Refusal
or_invalid_policy name (Some p) = Ok p
or_invalid_policy name None = Err (invalid_policy name)
