-- Sessions without a reply `? memory`.
use Rattle.debugger.proofs.Prelude.{◌≡◌, ℕ, Bool, true, false, List, [], ◌∷◌, ◌++◌, map, fold, refl, sym, ap, ◌∙◌, append_assoc, append-nil, codes, Option, Some, Result, Ok, Err, arith, nat_tests, OnOk, list_any, bytes_eq, or_parts, or_right, list_any-append, append_cancel_left, State, Line, answer_to, is_refused, Dialogue, dialogue_after, granted, cut, says_memory, session_text, lines_of, Transcript, ReadsAndWrites, dialogue_of, TellsAll, SessionError, fold-append}
use Rattle.streams.proofs.Cut.{Whole, lines-append, whole-append, cut_behind}
use Rattle.debugger.proofs.Going.{hear-on, hear-off}
use Rattle.debugger.specs.Session.{start_dialogue}
use Rattle.debugger.specs.Transcript.{all}
use Rattle.debugger.proofs.Whole.{answers_in_lines}

-- a text with such a line in a prefix has one
beginning_says : (front more : List ℕ) → says_memory (front ++ more) ≡ false → says_memory front ≡ false
beginning_says front more none =
    let later = lines-append front more in
    (or_parts (says_memory front) _ (sym (list_any-append (bytes_eq (codes "? memory")) (cut front).0 later.0) ∙ ap (list_any (bytes_eq (codes "? memory"))) (sym later.1) ∙ none)).0

-- a failed allocation adds such a line
refusal_says : (text : List ℕ) → Whole text → says_memory (text ++ codes "? memory\n") ≡ true
unfolding cut
refusal_says text whole = grind (arith, nat_tests, fold-append, append-nil, cut_behind, list_any-append, or_right)

-- what one line adds to the text
hear_grows : (s : State) (t : Dialogue) (l : Line) (ended : Bool) → t.session_state.ended ≡ ended → (more : List ℕ) × ((dialogue_after s t l).text ≡ t.text ++ more)
hear_grows s t l true off = ([], ap (λ (u : Dialogue). u.text) (hear-off s t l off) ∙ sym (append-nil t.text))
hear_grows s t l false on = ((answer_to s t.session_state l).text, ap (λ (u : Dialogue). u.text) (hear-on s t l on))

talk_grows : (s : State) (t : Dialogue) (marked : List Line) → (more : List ℕ) × ((fold (dialogue_after s) t marked).text ≡ t.text ++ more)
talk_grows s t [] = ([], sym (append-nil t.text))
talk_grows s t (l ∷ marked) =
    let one = hear_grows s t l t.session_state.ended refl in
    let rest = talk_grows s (dialogue_after s t l) marked in
    (one.0 ++ rest.0, rest.1 ∙ ap (λ (text : List ℕ). text ++ rest.0) one.1 ∙ append_assoc t.text one.0 rest.0)

hear_whole : (s : State) (t : Dialogue) (l : Line) (ended : Bool) → t.session_state.ended ≡ ended → Whole t.text → Whole (dialogue_after s t l).text
hear_whole s t l ended is whole = grind (arith, nat_tests, answers_in_lines, hear-off, hear-on, whole-append)

-- a line without that reply had no failed allocation
answer_granted : (s : State) (t : Dialogue) (l : Line) (refused : Bool) → is_refused s t.session_state l ≡ refused → Whole t.text
    → says_memory (t.text ++ (answer_to s t.session_state l).text) ≡ false → answer_to s t.session_state l ≡ answer_to s t.session_state (granted l.0)
unfolding answer_to
answer_granted s t l refused is whole none = grind (arith, nat_tests, refusal_says)

hear_granted : (s : State) (t : Dialogue) (l : Line) (ended : Bool) → t.session_state.ended ≡ ended → Whole t.text → says_memory (dialogue_after s t l).text ≡ false → dialogue_after s t l ≡ dialogue_after s t (granted l.0)
hear_granted s t l ended is whole none = grind (arith, nat_tests, answer_granted, hear-off, hear-on)

talk_granted : (s : State) (t : Dialogue) (marked : List Line) → Whole t.text → says_memory (fold (dialogue_after s) t marked).text ≡ false
    → fold (dialogue_after s) t marked ≡ fold (dialogue_after s) t (map granted (lines_of marked))
talk_granted s t [] whole none = refl
talk_granted s t (l ∷ marked) whole none =
    let next = talk_grows s (dialogue_after s t l) marked in
    let here : says_memory (dialogue_after s t l).text ≡ false = beginning_says (dialogue_after s t l).text next.0 (ap says_memory (sym next.1) ∙ none) in
    talk_granted s (dialogue_after s t l) marked (hear_whole s t l t.session_state.ended refl whole) none
    ∙ ap (λ (u : Dialogue). fold (dialogue_after s) u (map granted (lines_of marked))) (hear_granted s t l t.session_state.ended refl whole here)

pub tells_all : TellsAll
unfolding cut
tells_all = grind (arith, nat_tests, talk_granted)

same_end : (before a b : List ℕ) → Some (before ++ a) ≡ Some (before ++ b) → a ≡ b
same_end before a b is = grind (arith, append_cancel_left)

-- the text of a session that wrote no `? memory`
says_all : (s : State) (input text written : List ℕ) (read : ℕ) (result : Result (Unit {0}) SessionError) → Transcript s input read text result → text ≡ written
    → says_memory written ≡ false → OnOk result (written ≡ session_text s input)
unfolding cut
says_all s input text written read (Ok u) (all lines quiet ends are) same none =
    sym same
    ∙ ap (λ (t : Dialogue). t.text) (talk_granted s start_dialogue lines refl (ap says_memory same ∙ none))
    ∙ ap (λ (ls : List (List ℕ)). (dialogue_of s (map granted ls)).text) are
says_all s input text written read (Err e) t same none = tt

pub says_text : (s : State) (input before written : List ℕ) (left after : Option (List ℕ)) (result : Result (Unit {0}) SessionError)
    → ReadsAndWrites s input before left after result → after ≡ Some (before ++ written) → says_memory written ≡ false → OnOk result (written ≡ session_text s input)
says_text s input before written left after result told is none =
    says_all s input told.text written told.read result told.transcript (same_end before told.text written (sym told.written_is ∙ is)) none
