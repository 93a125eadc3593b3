-- A run that is shown at one of its places, with copies of the machine at some of them.
use Rattle.std.specs.Prelude.{◌≡◌, ℕ, ◌+◌, ◌-◌, ◌%◌, ◌<◌, ◌≤◌, Bool, false, List, [], ◌∷◌, ◌++◌, length, drop, All, Contains}
use Rattle.circular_buffer.specs.Buffer.{keep_last}
use Rattle.bpf_machine.specs.State.{State}
use Rattle.bpf_machine.specs.Step.{is_running}
use Rattle.bpf_machine.specs.Trace.{state_after}
use Rattle.history.specs.Limits.{checkpoint_limit, checkpoint_interval}
use Rattle.history.specs.declared.checkpoint.Checkpoint.{Checkpoint}

-- the state at place 0, the places of the checkpoints in order, the oldest first, and whether
-- one was dropped after a failed allocation
pub record Checkpoints : Type 0 where
  pub origin : State
  pub places : List ℕ
  pub dropped_checkpoint : Bool

-- the state at place 0, the place that is shown, the checkpoints' places, the steps made to show it, and whether the
-- last call dropped a checkpoint after a failed allocation
pub record Past : Type 0 where
  pub origin : State
  pub place : ℕ
  pub checkpoints : List ℕ
  pub replayed : ℕ
  pub dropped_checkpoint : Bool

-- the machine of a checkpoint is in the state of the run at its place
abbrev pub IsCheckpoint : {E : Type 0} → (E → State) → State → Checkpoint E → Type 0
IsCheckpoint state s c = state c.machine ≡ state_after c.place s

-- a checkpoint is due at a multiple of `checkpoint_interval` other than 0 that is not one of these places
abbrev pub IsDue : List ℕ → ℕ → Type 0
IsDue places k = (k % checkpoint_interval ≡ 0) × (Contains (0 ∷ places) k → ⊥)

-- these places and one more, limited to the newest `checkpoint_limit`
abbrev pub with_place : List ℕ → ℕ → List ℕ
with_place places k = keep_last checkpoint_limit (places ++ k ∷ [])

-- the new places are the old ones followed by the added multiples of `checkpoint_interval`, without the
-- oldest: at most one for each that was added, those beyond the newest `checkpoint_limit`; and more
-- only if some were dropped after a failed allocation
pub record KeepsPlaces (dropped_checkpoint : Bool) (old added new : List ℕ) : Type 0 where
  pub rounds : All (λ k. k % checkpoint_interval ≡ 0) added
  pub gone : ℕ
  pub rest : new ≡ drop gone (old ++ added)
  pub within : gone ≤ length (old ++ added)
  pub room : dropped_checkpoint ≡ false → (gone ≤ length added) × (gone ≤ length (old ++ added) - checkpoint_limit)

-- the same run, with places added
pub record HasPlacesAdded (old new : Checkpoints) : Type 0 where
  pub origin : new.origin ≡ old.origin
  pub added : List ℕ
  pub keeps : KeepsPlaces new.dropped_checkpoint old.places added new.places
  pub told : new.dropped_checkpoint ≡ false → old.dropped_checkpoint ≡ false

-- the same run, with no place added
pub record IsSpared (old new : Checkpoints) : Type 0 where
  pub origin : new.origin ≡ old.origin
  pub keeps : KeepsPlaces new.dropped_checkpoint old.places [] new.places
  pub told : new.dropped_checkpoint ≡ false → old.dropped_checkpoint ≡ false

-- place k was added, after some may have been dropped
pub record HasPlace (old new : Checkpoints) (k : ℕ) : Type 0 where
  pub between : List ℕ
  pub keeps : KeepsPlaces new.dropped_checkpoint old.places [] between
  pub added : new.places ≡ with_place between k

-- k is at most n, or the run has stopped at place n, so that place k has the same state
abbrev pub Reaches : State → ℕ → ℕ → Type 0
Reaches s n k = n < k → is_running (state_after n s).status ≡ false

-- p is the greatest of these places at or before k
pub record IsNearest (places : List ℕ) (k p : ℕ) : Type 0 where
  pub among : Contains places p
  pub at_most : p ≤ k
  pub greatest : (q : ℕ) → Contains places q → q ≤ k → q ≤ p

-- the places at which a machine is available: the start, the one that is shown, the checkpoints
abbrev pub places_of : Past → List ℕ
places_of h = 0 ∷ h.place ∷ h.checkpoints

-- n steps lead from the nearest available place to place k, or to a stopped state before it
pub record IsReplay (h : Past) (k n : ℕ) : Type 0 where
  pub from : ℕ
  pub nearest : IsNearest (places_of h) k from
  pub at_most : from + n ≤ k
  pub reaches : Reaches h.origin (from + n) k
