-- Searches for a place at which the run stops.
use Rattle.std.specs.Prelude.{◌≡◌, ◌≢◌, ℕ, zero, suc, ◌+◌, ◌<◌, ◌≤◌, ◌⊎◌, Bool, true, false, not, ◌||◌, ℤ, pos, negsuc, List, nat_eq, if◌then◌else◌}
use Rattle.std.specs.List.{list_any}
use Rattle.bpf_machine.specs.State.{State}
use Rattle.bpf_machine.specs.Step.{is_running}
use Rattle.bpf_machine.specs.Trace.{state_after}

-- whether `pc` is one of these slots; a negative `pc` is none
unfoldable pub is_at : List ℕ → ℤ → Bool
is_at stops (pos slot) = list_any (nat_eq slot) stops
is_at stops (negsuc n) = false

-- whether the run stops in this state: it is not running, or `pc` is one of these slots
unfoldable pub is_stop : List ℕ → State → Bool
is_stop stops s = not (is_running s.status) || is_at stops s.pc

-- the first of the n places after place k at which the run from s stops, else the last of them
unfoldable pub first_stop : List ℕ → State → ℕ → ℕ → ℕ
first_stop stops s k zero = k
first_stop stops s k (suc n) = if is_stop stops (state_after (k + 1) s) then k + 1 else first_stop stops s (k + 1) n

-- the last of the places before place k whose `pc` is one of these slots, else place 0
unfoldable pub last_stop : List ℕ → State → ℕ → ℕ
last_stop stops s zero = 0
last_stop stops s (suc k) = if is_at stops (state_after k s).pc then k else last_stop stops s k

-- j is the least place after k and up to k + n at which the run stops, or k + n if there is none
pub record IsFirst (stops : List ℕ) (s : State) (k n j : ℕ) : Type 0 where
  pub after : k < j
  pub within : j ≤ k + n
  pub none_before : (i : ℕ) → k < i → i < j → is_stop stops (state_after i s) ≡ false
  pub stops_there : j ≢ k + n → is_stop stops (state_after j s) ≡ true

-- j is the greatest place before k whose `pc` is one of these slots, or 0 if there is none
pub record IsLast (stops : List ℕ) (s : State) (k j : ℕ) : Type 0 where
  pub before : (j < k) ⊎ (j ≡ 0)
  pub none_after : (i : ℕ) → j < i → i < k → is_at stops (state_after i s).pc ≡ false
  pub stops_there : j ≢ 0 → is_at stops (state_after j s).pc ≡ true

-- the computed first stop is the least place
abbrev pub FirstIsLeast : Type 0
FirstIsLeast = (stops : List ℕ) (s : State) (k n j : ℕ) → 0 < n
    → (IsFirst stops s k n j → j ≡ first_stop stops s k n) × (j ≡ first_stop stops s k n → IsFirst stops s k n j)

-- the computed last stop is the greatest place
abbrev pub LastIsGreatest : Type 0
LastIsGreatest = (stops : List ℕ) (s : State) (k j : ℕ)
    → (IsLast stops s k j → j ≡ last_stop stops s k) × (j ≡ last_stop stops s k → IsLast stops s k j)
