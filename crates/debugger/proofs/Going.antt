-- The state of a session as it hears more bytes.
use Rattle.debugger.proofs.Prelude.{◌≡◌, ℕ, zero, suc, nat_eq, ◌<◌, ◌≤◌, Bool, true, false, List, [], ◌∷◌, ◌++◌, length, length-append, length-drop, take, drop, map, fold, Option, Some, refl, sym, ap, ◌∙◌, subst, arith, append_assoc, append-nil, nat_tests, map-append, or_parts, list_any-append, take-append-drop, take-append-le, fold_push, fold-append, State, AddsBytes, SessionState, Line, session_state_at, command_of, is_quit, Dialogue, start_dialogue, dialogue_after, dialogue_of, with_answer, granted, cut, has_quit, input_lines, lines_of, IsDialogue, AnswersLine, WritesAnswer, WritesPartOfAnswer, TranscriptSoFar, TranscriptToQuit, TranscriptToEnd, TranscriptCut, TranscriptBreaks, HasNoFeed}
use Rattle.debugger.proofs.Asked.{answers_whole}
use Rattle.streams.proofs.Cut.{Pieces, cut-line, cut-part, input_lines-ended, lines-append, take-join}
use Rattle.debugger.proofs.Quit.{answer_to-ended, quit-push}

pub hear-on : (s : State) (t : Dialogue) (l : Line) → t.session_state.ended ≡ false → dialogue_after s t l ≡ with_answer s t l
unfolding dialogue_after
hear-on s t l on = grind arith

pub hear-off : (s : State) (t : Dialogue) (l : Line) → t.session_state.ended ≡ true → dialogue_after s t l ≡ t
unfolding dialogue_after
hear-off s t l off = grind arith

talk-more : (s : State) (marked : List Line) (t : Dialogue) (l : Line) → dialogue_of s marked ≡ t → t.session_state.ended ≡ false
    → dialogue_of s (marked ++ l ∷ []) ≡ with_answer s t l
unfolding dialogue_after
talk-more s marked t l is on = grind (arith, nat_tests, fold_push)

lines-more : (marked : List Line) (lines : List (List ℕ)) (line : List ℕ) (mark : Bool) → lines_of marked ≡ lines
    → lines_of (marked ++ (line, mark) ∷ []) ≡ lines ++ line ∷ []
lines-more marked lines line mark are = grind (arith, nat_tests, map-append)

-- one more line
heard-more : (s : State) (lines : List (List ℕ)) (t : Dialogue) (line : List ℕ) (mark : Bool) → IsDialogue s lines t → t.session_state.ended ≡ false
    → IsDialogue s (lines ++ line ∷ []) (with_answer s t (line, mark))
heard-more s lines t line mark h on = record {
  marked = h.marked ++ (line, mark) ∷ [];
  lines_are = lines-more h.marked lines line mark h.lines_are;
  talk_is = talk-more s h.marked t (line, mark) h.talk_is on;
}

granted-lines : (lines : List (List ℕ)) → lines_of (map granted lines) ≡ lines
granted-lines [] = refl
granted-lines (line ∷ lines) = ap (λ (ls : List (List ℕ)). line ∷ ls) (granted-lines lines)

granted-off : (s : State) (t : Dialogue) (lines : List (List ℕ)) → t.session_state.ended ≡ true → fold (dialogue_after s) t (map granted lines) ≡ t
granted-off s t [] off = refl
granted-off s t (line ∷ lines) off = ap (λ (u : Dialogue). fold (dialogue_after s) u (map granted lines)) (hear-off s t (granted line) off) ∙ granted-off s t lines off

-- lines after the end change nothing
pub heard-off : (s : State) (lines more : List (List ℕ)) (t : Dialogue) → IsDialogue s lines t → t.session_state.ended ≡ true → IsDialogue s (lines ++ more) t
heard-off s lines more t h off = record {
  marked = h.marked ++ map granted more;
  lines_are = map-append (λ (l : Line). l.0) h.marked (map granted more) ∙ (λ i. h.lines_are i ++ granted-lines more i);
  talk_is = fold-append (dialogue_after s) start_dialogue h.marked (map granted more) ∙ ap (λ (u : Dialogue). fold (dialogue_after s) u (map granted more)) h.talk_is
      ∙ granted-off s t more off;
}

-- no line of a prefix ends a session if none of the whole does
pub quiet_front : (bytes : List ℕ) (n : ℕ) → has_quit (cut bytes).0 ≡ false → has_quit (cut (take n bytes)).0 ≡ false
quiet_front bytes n none =
    let later = lines-append (take n bytes) (drop n bytes) in
    let all = ap (λ (xs : List ℕ). (cut xs).0) (sym (take-append-drop n bytes)) ∙ later.1 in
    (or_parts (has_quit (cut (take n bytes)).0) (has_quit later.0)
    (sym (list_any-append (λ (line : List ℕ). is_quit (command_of line)) (cut (take n bytes)).0 later.0) ∙ ap has_quit (sym all) ∙ none)).0

pub going_start : (s : State) (before : List ℕ) (written : Option (List ℕ)) → written ≡ Some before → TranscriptSoFar s before [] written [] [] 0
unfolding cut
going_start s before written is = record {
  talk = start_dialogue;
  lines = record { marked = []; lines_are = refl; talk_is = refl };
  goes_on = refl;
  rest = refl;
  written_is = is ∙ ap Some (sym (append-nil before));
  world_is = refl;
}

written-more : (before so_far text said : List ℕ) (written new : Option (List ℕ)) → written ≡ Some (before ++ so_far) → AddsBytes written new text
    → said ≡ text → new ≡ Some (before ++ (so_far ++ said))
written-more before so_far text said written new old e same = grind (arith, nat_tests, append_assoc)

-- the dialogue after one more line
record Said (s : State) (before : List ℕ) (lines : List (List ℕ)) (line : List ℕ) (next : SessionState) (new : Option (List ℕ)) : Type 0 where
  talk : Dialogue
  heard : IsDialogue s (lines ++ line ∷ []) talk
  said_written : new ≡ Some (before ++ talk.text)
  said_world : talk.session_state ≡ next
  said_quit : has_quit (lines ++ line ∷ []) ≡ next.ended

-- a session that continues
module _ {s : State} {before heard : List ℕ} {written : Option (List ℕ)} {line slots : List ℕ} {k : ℕ} (g : TranscriptSoFar s before heard written line slots k) where
  kept : (part : List ℕ) → take 65 (line ++ part) ≡ take 65 ((cut heard).1 ++ part)
  kept part = ap (λ (l : List ℕ). take 65 (l ++ part)) g.rest ∙ take-join 65 (cut heard).1 part

  -- a part of a line
  pub going_part : (part more : List ℕ) → HasNoFeed part → more ≡ take 65 (line ++ part) → TranscriptSoFar s before (heard ++ part) written more slots k
  going_part part more plain e =
      let c = cut-part heard part plain in
      record {
        talk = g.talk;
        lines = subst (λ (ls : List (List ℕ)). IsDialogue s ls g.talk) (ap (λ (p : Pieces). p.0) (sym c)) g.lines;
        goes_on = ap (λ (p : Pieces). has_quit p.0) c ∙ g.goes_on;
        rest = e ∙ kept part ∙ ap (λ (p : Pieces). take 65 p.1) (sym c);
        written_is = g.written_is;
        world_is = g.world_is;
      }

  -- a line that is answered; up to 65 bytes of it are kept
  module _ (whole held : List ℕ) (is : held ≡ take 65 whole) (new : Option (List ℕ)) where
    -- its reply in the session state of the dialogue
    answers_here : (next : SessionState) (text : List ℕ) → AnswersLine s (session_state_at slots k false) held next text → AnswersLine s g.talk.session_state whole next text
    answers_here next text a = answers_whole s _ next whole text (rw (g.world_is, ← is) a)

    said_line : (next : SessionState) → WritesAnswer s (session_state_at slots k false) held next written new → Said s before (cut heard).0 whole next new
    said_line next h =
        let on = ap (λ (v : SessionState). v.ended) g.world_is in
        let a = answers_here next h.text h.answers in
        record {
          talk = with_answer s g.talk (whole, a.mark);
          heard = heard-more s _ g.talk whole a.mark g.lines on;
          said_written = written-more before g.talk.text h.text _ written new g.written_is h.line_written a.text_is;
          said_world = a.next_is;
          said_quit = quit-push (cut heard).0 whole g.goes_on ∙ sym (answer_to-ended s g.talk.session_state whole a.mark on)
              ∙ ap (λ (w : SessionState). w.ended) a.next_is;
        }

    -- a reply that was written in part
    part_told : (all : List ℕ) → WritesPartOfAnswer s (session_state_at slots k false) held written new
        → input_lines all ≡ (cut heard).0 ++ whole ∷ [] → TranscriptCut s before all new
    part_told all h are =
        let a = answers_here h.next h.text h.answers in
        let so_far = ap (λ (t : Dialogue). t.text) (sym g.lines.talk_is) in
        record {
          answered = g.lines.marked;
          last = (whole, a.mark);
          lines_are = lines-more g.lines.marked _ whole a.mark g.lines.lines_are ∙ sym are;
          part = take h.many h.text;
          rest = drop h.many h.text;
          part_is = ap (λ (t : Dialogue). t.text) (talk-more s g.lines.marked g.talk (whole, a.mark) g.lines.talk_is (ap (λ (v : SessionState). v.ended) g.world_is))
              ∙ (λ j. so_far j ++ (a.text_is ∙ sym (take-append-drop h.many h.text)) j);
          is_cut = omega (arith, h.is_cut, length-drop h.many h.text);
          part_written = written-more before g.talk.text (take h.many h.text) (take h.many h.text) written new g.written_is h.line_written refl
              ∙ ap (λ (text : List ℕ). Some (before ++ (text ++ take h.many h.text))) so_far;
        }

  -- the rest of a line, and its line feed
  module _ (rest held : List ℕ) (plain : HasNoFeed rest) (is : held ≡ take 65 (line ++ rest)) (new : Option (List ℕ)) where
    ends_line : cut (heard ++ (rest ++ 10 ∷ [])) ≡ ((cut heard).0 ++ ((cut heard).1 ++ rest) ∷ [], [])
    ends_line = cut-line heard rest plain

    said_rest : (next : SessionState) → WritesAnswer s (session_state_at slots k false) held next written new → Said s before (cut heard).0 ((cut heard).1 ++ rest) next new
    said_rest next h = said_line ((cut heard).1 ++ rest) held (is ∙ kept rest) new next h

    pub going_line : (later : List ℕ) (j : ℕ) (ended : Bool) → WritesAnswer s (session_state_at slots k false) held (session_state_at later j ended) written new
        → ended ≡ false → TranscriptSoFar s before (heard ++ (rest ++ 10 ∷ [])) new [] later j
    going_line later j ended h on =
        let said = said_rest (session_state_at later j ended) h in
        record {
          talk = said.talk;
          lines = subst (λ (ls : List (List ℕ)). IsDialogue s ls said.talk) (ap (λ (p : Pieces). p.0) (sym ends_line)) said.heard;
          goes_on = ap (λ (p : Pieces). has_quit p.0) ends_line ∙ said.said_quit ∙ on;
          rest = ap (λ (p : Pieces). take 65 p.1) (sym ends_line);
          written_is = said.said_written;
          world_is = said.said_world ∙ ap (session_state_at later j) on;
        }

    quiet_before : (n : ℕ) → n < length (heard ++ (rest ++ 10 ∷ [])) → has_quit (cut (take n (heard ++ (rest ++ 10 ∷ [])))).0 ≡ false
    quiet_before n short =
        let open_line = ap (λ (p : Pieces). has_quit p.0) (cut-part heard rest plain) ∙ g.goes_on in
        let size = length-append heard (rest ++ 10 ∷ []) in
        let more = length-append rest (10 ∷ []) in
        let few : n ≤ length (heard ++ rest) = omega (arith, short, size, more, length-append heard rest) in
        ap (λ (bytes : List ℕ). has_quit (cut (take n bytes)).0) (sym (append_assoc heard rest (10 ∷ [])))
        ∙ ap (λ (bytes : List ℕ). has_quit (cut bytes).0) (take-append-le n (heard ++ rest) (10 ∷ []) few)
        ∙ quiet_front (heard ++ rest) n open_line

    pub told_quit : (next : SessionState) → WritesAnswer s (session_state_at slots k false) held next written new → next.ended ≡ true
        → TranscriptToQuit s before (heard ++ (rest ++ 10 ∷ [])) new
    told_quit next h off =
        let said = said_rest next h in
        record {
          talk = said.talk;
          lines = subst (λ (ls : List (List ℕ)). IsDialogue s ls said.talk) (ap (λ (p : Pieces). p.0) (sym ends_line)) said.heard;
          goes_on = quiet_before;
          quits = ap (λ (p : Pieces). has_quit p.0) ends_line ∙ said.said_quit ∙ off;
          written_is = said.said_written;
          ended = ap (λ (w : SessionState). w.ended) said.said_world ∙ off;
        }

    pub told_part : WritesPartOfAnswer s (session_state_at slots k false) held written new → TranscriptBreaks false s before (heard ++ (rest ++ 10 ∷ [])) new
    told_part h =
        let all = input_lines-ended (heard ++ (rest ++ 10 ∷ [])) (ap (λ (p : Pieces). take 65 p.1) ends_line) ∙ ap (λ (p : Pieces). p.0) ends_line in
        (part_told ((cut heard).1 ++ rest) held (is ∙ kept rest) new (heard ++ (rest ++ 10 ∷ [])) h all, ap (λ (p : Pieces). p.1) ends_line)

  -- the line after the last line feed
  open_line : 0 < length line → input_lines heard ≡ (cut heard).0 ++ (cut heard).1 ∷ []
  open_line some = let rest = g.rest in grind arith

  pub end_none : line ≡ [] → TranscriptToEnd s before heard written
  end_none none = record {
    talk = g.talk;
    lines = subst (λ (ls : List (List ℕ)). IsDialogue s ls g.talk) (sym (input_lines-ended heard (sym g.rest ∙ none))) g.lines;
    goes_on = g.goes_on;
    written_is = g.written_is;
  }

  pub end_line : (next : SessionState) (new : Option (List ℕ)) → 0 < length line → WritesAnswer s (session_state_at slots k false) line next written new → TranscriptToEnd s before heard new
  end_line next new some h =
      let said = said_line (cut heard).1 line g.rest new next h in
      record {
        talk = said.talk;
        lines = subst (λ (ls : List (List ℕ)). IsDialogue s ls said.talk) (sym (open_line some)) said.heard;
        goes_on = g.goes_on;
        written_is = said.said_written;
      }

  pub end_part : (new : Option (List ℕ)) → 0 < length line → WritesPartOfAnswer s (session_state_at slots k false) line written new → TranscriptCut s before heard new
  end_part new some h = part_told (cut heard).1 line g.rest new heard h (open_line some)

pub some_byte : (n : ℕ) → nat_eq n 0 ≡ false → 0 < n
some_byte zero none = absurd (cc)
some_byte (suc n) none = omega arith
