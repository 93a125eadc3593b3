-- Results of a history that shows the same place as before.
use Rattle.history.proofs.Prelude.{◌≡◌, ℕ, refl, ap, State, state_after, IsUnchangedHistory}

-- the run and the place that is shown determine every result
pub as_before : {H : Type 0} (origin : H → State) (place : H → ℕ) (old new : H) → origin new ≡ origin old → place new ≡ place old → IsUnchangedHistory origin place old new
as_before origin place old new start now = record {
  start = start;
  now = now;
  machine = rw start (rw now refl);
  go = λ k. ap (state_after k) start;
  first = λ to stops. rw start (rw now refl);
  last = λ stops. rw start (rw now refl);
}
