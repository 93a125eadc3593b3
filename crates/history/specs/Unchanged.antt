-- A call that does not change what a history shows.
use Rattle.std.specs.Prelude.{◌≡◌, ℕ, ◌-◌, List}
use Rattle.bpf_machine.specs.State.{State}
use Rattle.bpf_machine.specs.Trace.{state_after}
use Rattle.history.specs.Search.{first_stop, last_stop}

-- The results of all calls are unchanged for a history whose state at place 0 is `origin` and that
-- shows `place`: the state at place 0, the place that is shown, the machine's state there, the
-- result of each move, and that of each search.
pub record IsUnchangedHistory {H : Type 0} (origin : H → State) (place : H → ℕ) (old new : H) : Type 0 where
  pub start : origin new ≡ origin old
  pub now : place new ≡ place old
  pub machine : state_after (place new) (origin new) ≡ state_after (place old) (origin old)
  pub go : (k : ℕ) → state_after k (origin new) ≡ state_after k (origin old)
  pub first : (to : ℕ) (stops : List ℕ)
      → first_stop stops (origin new) (place new) (to - place new) ≡ first_stop stops (origin old) (place old) (to - place old)
  pub last : (stops : List ℕ) → last_stop stops (origin new) (place new) ≡ last_stop stops (origin old) (place old)
