-- The transcript of a session: the bytes that it read and wrote.
use Rattle.std.specs.Prelude.{◌≡◌, ℕ, ◌<◌, ◌≤◌, ◌⊎◌, Bool, true, false, List, [], ◌∷◌, ◌++◌, length, take, drop, map, Option, Some, Result, Ok, Err, OnOk}
use Rattle.bpf_machine.specs.State.{State}
use Rattle.streams.specs.Streams.{AddsBytes, Stream}
use Rattle.debugger.specs.Answers.{Line, SessionState, session_state_at, answer_to}
use Rattle.debugger.specs.Session.{Dialogue, dialogue_of, has_quit, says_memory, session_text}
use Rattle.streams.specs.Lines.{cut, input_lines, readable}
use Rattle.streams.specs.declared.session_error.SessionError.{SessionError, TheVariants.ReadFailed, TheVariants.WriteFailed, TheVariants.Memory}
use Rattle.streams.specs.Failures.{FailsByResult}

-- the lines without their marks
abbrev pub lines_of : List Line → List (List ℕ)
lines_of marked = map (λ (l : Line). l.0) marked

-- the number of bytes of the input that a session in the run from s read, and the text that it wrote, by its result
pub data Transcript (s : State) (input : List ℕ) : ℕ → List ℕ → Result (Unit {0}) SessionError → Type 0 where
  -- all lines of the input were answered, and nothing was read after the line feed of the first that ends a session
  all : {read : ℕ} (lines : List Line) → ((n : ℕ) → n < read → has_quit (cut (take n input)).0 ≡ false)
      → (has_quit (cut (take read input)).0 ≡ true) ⊎ (read ≡ length (readable input)) → lines_of lines ≡ input_lines (readable input)
      → Transcript s input read (dialogue_of s lines).text (Ok tt)
  -- the lines that ended were answered, and none of them ends a session
  some : {read : ℕ} (lines : List Line) → has_quit (cut (take read input)).0 ≡ false → lines_of lines ≡ (cut (take read input)).0
      → Transcript s input read (dialogue_of s lines).text (Err ReadFailed)
  -- the reply to the last line that was read was written only in part
  part : {read : ℕ} (lines : List Line) (last : Line) (part rest : List ℕ)
      → ((cut (take read input)).1 ≡ []) ⊎ (read ≡ length (readable input)) → lines_of (lines ++ last ∷ []) ≡ input_lines (take read input)
      → (dialogue_of s (lines ++ last ∷ [])).text ≡ (dialogue_of s lines).text ++ (part ++ rest) → 0 < length rest
      → Transcript s input read ((dialogue_of s lines).text ++ part) (Err WriteFailed)
  none : Transcript s input 0 [] (Err Memory)

-- what a session read from its input, and what it wrote after the bytes before it
pub record ReadsAndWrites (s : State) (input before : List ℕ) (left written : Option (List ℕ))
    (result : Result (Unit {0}) SessionError) : Type 0 where
  pub read : ℕ
  pub text : List ℕ
  pub within : read ≤ length (readable input)
  pub left_is : left ≡ Some (drop read input)
  pub written_is : written ≡ Some (before ++ text)
  pub transcript : Transcript s input read text result

-- the effect of a session in the run from s on a reader and a writer, by its result
pub record IsSession (s : State) (r r_after w w_after : Stream) (result : Result (Unit {0}) SessionError) : Type 0 where
  pub told : (input before : List ℕ) → r.bytes ≡ Some input → w.bytes ≡ Some before
      → ReadsAndWrites s input before r_after.bytes w_after.bytes result
  -- if no line that it wrote is `? memory`, it wrote the session's text
  pub text : (input before written : List ℕ) → r.bytes ≡ Some input → w.bytes ≡ Some before → w_after.bytes ≡ Some (before ++ written)
      → says_memory written ≡ false → OnOk result (written ≡ session_text s input)
  pub fails : FailsByResult r.failed r_after.failed w.failed w_after.failed result

-- ---- parts

-- the dialogue for these lines, with failed allocations at some of them
pub record IsDialogue (s : State) (lines : List (List ℕ)) (t : Dialogue) : Type 0 where
  pub marked : List Line
  pub lines_are : lines_of marked ≡ lines
  pub talk_is : dialogue_of s marked ≡ t

-- a line's reply in a session state, and the session state after it; a mark tells whether an allocation failed
pub record AnswersLine (s : State) (w : SessionState) (line : List ℕ) (next : SessionState) (text : List ℕ) : Type 0 where
  pub mark : Bool
  pub next_is : (answer_to s w (line, mark)).next ≡ next
  pub text_is : (answer_to s w (line, mark)).text ≡ text

-- a line's reply was written
pub record WritesAnswer (s : State) (w : SessionState) (line : List ℕ) (next : SessionState) (written new : Option (List ℕ)) : Type 0 where
  pub text : List ℕ
  pub answers : AnswersLine s w line next text
  pub line_written : AddsBytes written new text

-- a line's reply was written in part
pub record WritesPartOfAnswer (s : State) (w : SessionState) (line : List ℕ) (written new : Option (List ℕ)) : Type 0 where
  pub next : SessionState
  pub text : List ℕ
  pub answers : AnswersLine s w line next text
  pub many : ℕ
  pub is_cut : many < length text
  pub line_written : AddsBytes written new (take many text)

-- the lines that ended among these bytes were answered, and none of them ends a session; the first 65 bytes of the
-- line after them are kept, and the session state has these breakpoints and this step
pub record TranscriptSoFar (s : State) (before heard : List ℕ) (written : Option (List ℕ)) (line slots : List ℕ) (k : ℕ) : Type 0 where
  pub talk : Dialogue
  pub lines : IsDialogue s (cut heard).0 talk
  pub goes_on : has_quit (cut heard).0 ≡ false
  pub rest : line ≡ take 65 (cut heard).1
  pub written_is : written ≡ Some (before ++ talk.text)
  pub world_is : talk.session_state ≡ session_state_at slots k false

-- a session continues in its run, which is the run from s
abbrev pub SessionGoesOn : State → State → List ℕ → List ℕ → List ℕ → ℕ → List ℕ → Option (List ℕ) → Type 0
SessionGoesOn origin s before line slots k heard written = (origin ≡ s) × TranscriptSoFar s before heard written line slots k

-- these bytes end with the first line that ends a session, and all their lines were answered
pub record TranscriptToQuit (s : State) (before heard : List ℕ) (written : Option (List ℕ)) : Type 0 where
  pub talk : Dialogue
  pub lines : IsDialogue s (cut heard).0 talk
  pub goes_on : (n : ℕ) → n < length heard → has_quit (cut (take n heard)).0 ≡ false
  pub quits : has_quit (cut heard).0 ≡ true
  pub written_is : written ≡ Some (before ++ talk.text)
  pub ended : talk.session_state.ended ≡ true

-- these bytes are the whole input, all their lines were answered, and no complete line among them ends a session
pub record TranscriptToEnd (s : State) (before heard : List ℕ) (written : Option (List ℕ)) : Type 0 where
  pub talk : Dialogue
  pub lines : IsDialogue s (input_lines heard) talk
  pub goes_on : has_quit (cut heard).0 ≡ false
  pub written_is : written ≡ Some (before ++ talk.text)

-- the replies to all lines of these bytes but the last were written completely, and the last one's only in part
pub record TranscriptCut (s : State) (before heard : List ℕ) (written : Option (List ℕ)) : Type 0 where
  pub answered : List Line
  pub last : Line
  pub lines_are : lines_of (answered ++ last ∷ []) ≡ input_lines heard
  pub part : List ℕ
  pub rest : List ℕ
  pub part_is : (dialogue_of s (answered ++ last ∷ [])).text ≡ (dialogue_of s answered).text ++ (part ++ rest)
  pub is_cut : 0 < length rest
  pub part_written : written ≡ Some (before ++ ((dialogue_of s answered).text ++ part))

-- how a session ends, at a line or at the input's end
abbrev pub TranscriptEnds : Bool → State → List ℕ → List ℕ → Option (List ℕ) → Type 0
TranscriptEnds false s before heard written = TranscriptToQuit s before heard written
TranscriptEnds true s before heard written = TranscriptToEnd s before heard written

-- how a write fails, at a line or at the input's end
abbrev pub TranscriptBreaks : Bool → State → List ℕ → List ℕ → Option (List ℕ) → Type 0
TranscriptBreaks false s before heard written = TranscriptCut s before heard written × ((cut heard).1 ≡ [])
TranscriptBreaks true s before heard written = TranscriptCut s before heard written
