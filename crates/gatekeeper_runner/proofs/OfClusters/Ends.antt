-- What is written to standard error, and how a cluster's start ends.
use Rattle.gatekeeper_runner.proofs.Prelude.{◌≡◌, ◌≢◌, ℕ, ◌<◌, List, length, take, Option, Result, Ok, Err, inl, inr, refl, OnErr, OnOk, FileSystem, StartRefusal}
use Rattle.serde_json.specs.Data as json
use Rattle.streams.specs.Streams.{AddsBytes, Stream, one_more}
use Rattle.streams.specs.declared.failed.Failed.{Failed}
use Rattle.cluster_state.specs.Refusals.{IsDueRefusal, not_a_list}
use Rattle.cluster_state.specs.State.{ClusterState, state_of}
use Rattle.cluster_state.specs.declared.state_error.StateError.{StateError}
use Rattle.cluster_state.specs.declared.state_error.StateError.TheVariants as state_error
use Rattle.gatekeeper_runner.specs.Endings.{TellsBytes}
use Rattle.gatekeeper_runner.specs.Cluster.Lines.{OpensKeeper}
use Rattle.gatekeeper_runner.specs.Cluster.Starting.{ClusterStarts, HoldLists, IsNotListed, is_blocked, no_memory, no_state, not_listed, ready, refusal_of_state}
use Rattle.gatekeeper_runner.specs.Orders.{ClusterOrder}
use Rattle.gatekeeper_runner.specs.declared.cluster_fault.ClusterFault.TheVariants.{NoList, NoState, Blocked, InFile}
use Rattle.gatekeeper_runner.specs.declared.cluster.keeper.ClusterKeeper.{ClusterKeeper}
use Rattle.gatekeeper_runner.specs.declared.start_refusal.StartRefusal.TheVariants.{Plain, Cluster}

-- bytes were written, or a beginning of them
pub tells : (old new : Stream) (bytes : List ℕ) (result : Result (Unit {0}) Failed) → OnOk result (AddsBytes old.bytes new.bytes bytes)
    → OnOk result (new.failed ≡ old.failed) → OnErr result ((many : ℕ) × (many < length bytes) × AddsBytes old.bytes new.bytes (take many bytes)) → OnErr result (new.failed ≡ one_more old.failed) → TellsBytes old new bytes
tells old new bytes (Ok u) adds failed part fails = inl (record { adds = adds; failed = failed })
tells old new bytes (Err e) adds failed part fails = inr (record { many = part.0; is_cut = part.1; adds = part.2; failed = fails })

module _ (known : Option FileSystem) (order : ClusterOrder) (lists : List json.Data) (hold : HoldLists known order.files lists) where
  -- the file at a place holds no List
  pub not_listed_at : (place : ℕ) (r : StartRefusal) → state_of lists ≡ Err (not_a_list place) → IsNotListed order.files place r → ClusterStarts known order (Err r)
  not_listed_at place (Plain r) due told = rw told no_memory
  not_listed_at place (Cluster (NoList name)) due told = not_listed place name hold due told
  not_listed_at place (Cluster (NoState e)) due told = absurd told
  not_listed_at place (Cluster (Blocked name cause)) due told = absurd told
  not_listed_at place (Cluster (InFile name fault)) due told = absurd told

  -- the lists are not the state of a cluster, though each is a List
  pub refused_state : (e : StateError) → ((place : ℕ) → e ≢ state_error.NotAList place) → IsDueRefusal (state_of lists) e
      → ClusterStarts known order (Err (refusal_of_state e))
  refused_state state_error.Memory listed due = no_memory
  refused_state (state_error.NotAList place) listed due = absurd (listed place refl)
  refused_state (state_error.InvalidItem n) listed due = no_state _ hold due
  refused_state (state_error.DuplicateItem name) listed due = no_state _ hold due
  refused_state state_error.NoNamespace listed due = no_state _ hold due
  refused_state (state_error.InvalidBinding name part) listed due = no_state _ hold due
  refused_state (state_error.InvalidPolicy name) listed due = no_state _ hold due

  module _ (s : ClusterState) (is : state_of lists ≡ Ok s) where
    -- a policy is blocked
    pub not_opened : (r : StartRefusal) → OpensKeeper lists order s (Err r) → ClusterStarts known order (Err r)
    not_opened (Plain r) opens = rw opens no_memory
    not_opened (Cluster (Blocked name cause)) opens = is_blocked name cause hold is opens.0 opens.1
    not_opened (Cluster (NoList name)) opens = absurd opens
    not_opened (Cluster (NoState e)) opens = absurd opens
    not_opened (Cluster (InFile name fault)) opens = absurd opens

    pub opened : (k : ClusterKeeper) → OpensKeeper lists order s (Ok k)
        → ClusterStarts known order (Ok (record { lists = lists; language = order.settings.language; state = s; limits = order.settings.limits; max_line = order.settings.max_line }))
    opened k opens = ready hold is opens.1
