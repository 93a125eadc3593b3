-- Lines that end a session.
use Rattle.debugger.proofs.Prelude.{◌≡◌, ℕ, Bool, false, List, [], ◌∷◌, ◌++◌, arith, nat_tests, or-false, if◌then◌else◌, list_any-append, State, SessionState, answer_of, answer_to, may_be_refused, command_of, is_quit, has_quit}

-- a property of both branches holds of the result of a test
pub either : {A : Type 0} (P : A → Type 0) (b : Bool) (x y : A) → P x → P y → P (if b then x else y)
either P b x y first second = grind arith

pub answer_to-ended : (s : State) (w : SessionState) (line : List ℕ) (mark : Bool) → w.ended ≡ false → (answer_to s w (line, mark)).next.ended ≡ is_quit (command_of line)
unfolding answer_to answer_of may_be_refused
answer_to-ended s w line mark on = grind (arith, nat_tests)

-- one more line
pub quit-push : (lines : List (List ℕ)) (line : List ℕ) → has_quit lines ≡ false → has_quit (lines ++ line ∷ []) ≡ is_quit (command_of line)
quit-push lines line none = grind (arith, nat_tests, list_any-append, or-false)
