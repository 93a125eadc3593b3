-- Breakpoints stay in order over a session.
use Rattle.debugger.proofs.Prelude.{◌≡◌, true, List, [], ◌∷◌, fold, refl, arith, nat_tests, State, Answer, Line, SessionState, answer_of, answer_to, in_order, StaysInOrder, Dialogue, start_dialogue, dialogue_after, with_answer}
use Rattle.debugger.proofs.Quit.{either}
use Rattle.debugger.proofs.Slots.{any-insert, cleared, filter_in_order, insert_in_order}

abbrev Ordered : SessionState → Type 0
Ordered w = in_order w.breakpoints ≡ true

-- the breakpoints are in order after a reply
abbrev Kept : Answer → Type 0
Kept a = Ordered a.next

line_ordered : (s : State) (w : SessionState) (l : Line) → Ordered w → Kept (answer_to s w l)
unfolding answer_to answer_of
line_ordered s w l kept = grind (arith, nat_tests, cleared, filter_in_order, any-insert, insert_in_order)

talk_ordered : (s : State) (t : Dialogue) (lines : List Line) → Ordered t.session_state → Ordered (fold (dialogue_after s) t lines).session_state
unfolding dialogue_after
talk_ordered s t [] kept = kept
talk_ordered s t (l ∷ lines) kept =
    talk_ordered s (dialogue_after s t l) lines (either (λ (u : Dialogue). Ordered u.session_state) t.session_state.ended t (with_answer s t l) kept (line_ordered s t.session_state l kept))

pub stays_in_order : StaysInOrder
stays_in_order s lines = talk_ordered s start_dialogue lines refl
