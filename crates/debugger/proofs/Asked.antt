-- Lines with equal commands.
use Rattle.std.specs.Prelude.{IsOk}
use Rattle.debugger.proofs.Prelude.{◌≡◌, ℕ, ◌<◌, Bool, true, false, List, [], ◌++◌, ◌+◌, ◌-◌, ◌≤◌, length, length-take, take, nat_le, codes, refl, sym, ap, ◌∙◌, inl, inr, arith, cases_lt, nat_tests, take_all, length-append, Result, Ok, Err, OnOk, append_assoc, drop, take-append-drop, take_at, slice_get_past, State, state_after, FitsWords, capped_command, command_of, SessionState, answer_of, may_be_refused, answer_to, AnswersLine, Command}

-- a line whose command was executed
pub answers_granted : (s : State) (w next : SessionState) (line : List ℕ) (c : Command) (text : List ℕ) → FitsWords (state_after w.place s) c
    → c ≡ capped_command (command_of line) → (answer_of s w c).next ≡ next → (answer_of s w c).text ≡ text → AnswersLine s w line next text
unfolding answer_to answer_of
answers_granted s w next line c text fits asked n t = grind (arith, nat_tests, nat_le, slice_get_past)

-- a line whose allocation failed
pub answers_refused : (s : State) (w next : SessionState) (line : List ℕ) (c : Command) (text : List ℕ) → FitsWords (state_after w.place s) c
    → c ≡ capped_command (command_of line) → may_be_refused s w c ≡ true → w ≡ next → codes "? memory\n" ≡ text → AnswersLine s w line next text
unfolding answer_to may_be_refused
answers_refused s w next line c text fits asked may n t = grind (arith, nat_tests, nat_le, slice_get_past)

-- the first 65 bytes of a line determine its command
command_of-take : (line : List ℕ) → command_of (take 65 line) ≡ command_of line
unfolding command_of
command_of-take line =
    elim (cases_lt 64 (length line)) [
      | inl long ↦
          let much : length (take 65 line) ≡ 65 = omega (arith, length-take 65 line, long) in
          let left : nat_le (length (take 65 line)) 64 ≡ false = rw much refl in
          let right : nat_le (length line) 64 ≡ false = grind (arith, nat_tests, long) in
          rw (left, right) refl
      | inr short ↦ ap command_of (take_all 65 line (omega (arith, short)))
    ]

answer_to-take : (s : State) (w : SessionState) (line : List ℕ) (mark : Bool) → answer_to s w (take 65 line, mark) ≡ answer_to s w (line, mark)
unfolding answer_to
answer_to-take s w line mark = grind (arith, nat_tests, command_of-take)

pub answers_whole : (s : State) (w next : SessionState) (line text : List ℕ) → AnswersLine s w (take 65 line) next text → AnswersLine s w line next text
answers_whole s w next line text a = grind (arith, nat_tests, answer_to-take)

-- a part of a line, up to the line's 65th byte
pub keep_all : (xs part : List ℕ) → length part ≤ 65 - length xs → length xs ≤ 65 → xs ++ part ≡ take 65 (xs ++ part)
keep_all xs part fits short = sym (take_all 65 (xs ++ part) (omega (arith, fits, short, length-append xs part)))

pub keep_some : (xs part : List ℕ) (len : ℕ) → len ≡ length xs → 65 - len < length part → len ≤ 65 → xs ++ take (65 - len) part ≡ take 65 (xs ++ part)
keep_some xs part len is long short =
    let room = 65 - len in
    let size : length (xs ++ take room part) ≡ 65 = omega (arith, is, length-append xs (take room part), length-take room part, long, short) in
    sym (ap (λ (more : List ℕ). take 65 (xs ++ more)) (sym (take-append-drop room part))
    ∙ ap (take 65) (sym (append_assoc xs (take room part) (drop room part)))
    ∙ take_at (xs ++ take room part) (drop room part) 65 size)

-- what holds of a successful result
pub fits_ok : {A E : Type 0} (r : Result A E) (P : Type 0) → IsOk r → OnOk r P → P
fits_ok (Ok x) P is holds = holds
fits_ok (Err e) P is holds = absurd (cc)
