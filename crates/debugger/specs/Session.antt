-- The text of a session.
use Rattle.std.specs.Prelude.{ℕ, Bool, false, List, [], ◌++◌, codes, fold, map, if◌then◌else◌}
use Rattle.std.specs.List.{list_any}
use Rattle.std.specs.Str.{bytes_eq}
use Rattle.bpf_machine.specs.State.{State}
use Rattle.debugger.specs.Answers.{SessionState, Line, answer_to}
use Rattle.debugger.specs.Commands.{command_of, is_quit}
use Rattle.streams.specs.Lines.{cut, input_lines, readable}

-- whether one of these lines ends a session
abbrev pub has_quit : List (List ℕ) → Bool
has_quit lines = list_any (λ line. is_quit (command_of line)) lines

-- the session state and the text so far
pub record Dialogue : Type 0 where
  pub session_state : SessionState
  pub text : List ℕ

-- a session before its first line: at step 0, without breakpoints
abbrev pub start_dialogue : Dialogue
start_dialogue = record { session_state = record { place = 0; breakpoints = []; ended = false }; text = [] }

-- the reply to one more line, appended to the text so far
abbrev pub with_answer : State → Dialogue → Line → Dialogue
with_answer s t l = record {
  session_state = (answer_to s t.session_state l).next;
  text = t.text ++ (answer_to s t.session_state l).text;
}

-- one more line, which is ignored after the session has ended
unfoldable pub dialogue_after : State → Dialogue → Line → Dialogue
dialogue_after s t l = if t.session_state.ended then t else with_answer s t l

-- the dialogue for these lines, from step 0 of the run from s on
abbrev pub dialogue_of : State → List Line → Dialogue
dialogue_of s lines = fold (dialogue_after s) start_dialogue lines

-- a line for which no allocation fails
abbrev pub granted : List ℕ → Line
granted line = (line, false)

-- the text of a session on an input
abbrev pub session_text : State → List ℕ → List ℕ
session_text s input = (dialogue_of s (map granted (input_lines (readable input)))).text

-- whether a line of this text is `? memory`
abbrev pub says_memory : List ℕ → Bool
says_memory text = list_any (bytes_eq (codes "? memory")) (cut text).0
