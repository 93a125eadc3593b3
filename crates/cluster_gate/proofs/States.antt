-- States that are the same.
use Rattle.std.proofs.Common.{◌≡◌}
use Rattle.std.proofs.Math.Path.{fun_ext}
use Rattle.cluster_state.specs.State.{ClusterState, IsClusterState}

-- the code's state is the one of the lists
pub same_state : (s code : ClusterState) → IsClusterState s code → code ≡ s
same_state s code is =
    let objects : code.objects ≡ s.objects = fun_ext is.objects in
    λ i. record { items = is.items i; objects = objects i; bindings = is.bindings i; policies = is.policies i }
