-- What a session wrote.
use Rattle.std.proofs.Common.{◌≡◌, ◌∙◌, ℕ, List, [], Some, Result, Ok, Err, OnOk, arith, refl, sym}
use Rattle.bpf_machine.specs.State.{State}
use Rattle.streams.specs.Lines.{input_lines, readable}
use Rattle.streams.specs.Streams.{Stream}
use Rattle.streams.specs.declared.session_error.SessionError.{SessionError}
use Rattle.debugger.specs.Answers.{Line}
use Rattle.debugger.specs.Session.{dialogue_of}
use Rattle.debugger.specs.Transcript.{IsSession, Transcript, all, lines_of}
use Rattle.celbpf_page.specs.Sessions.{AreReplies}

-- the lines of the input with this text
record LinesOf (s : State) (input text : List ℕ) : Type 0 where
  pub lines : List Line
  pub are : lines_of lines ≡ input_lines (readable input)
  pub text_is : text ≡ (dialogue_of s lines).text

-- a session that ended well answered all lines
answered : (s : State) (input text : List ℕ) (read : ℕ) (result : Result (Unit {0}) SessionError) → Transcript s input read text result → OnOk result (LinesOf s input text)
answered s input text read (Ok u) (all lines quiet ends are) = record { lines = lines; are = are; text_is = refl }
answered s input text read (Err e) t = tt

same : (a b : List ℕ) → Some a ≡ Some b → a ≡ b
same a b is = grind arith

-- the text that a session wrote after none
pub replied : (s : State) (commands text : List ℕ) (r r_after w w_after : Stream) → IsSession s r r_after w w_after (Ok tt)
    → r.bytes ≡ Some commands → w.bytes ≡ Some [] → w_after.bytes ≡ Some text → AreReplies s commands text
replied s commands text r r_after w w_after is left none took =
    let told = is.told commands [] left none in
    let wrote : text ≡ told.text = same text told.text (sym took ∙ told.written_is) in
    let lines = answered s commands told.text told.read (Ok tt) told.transcript in
    record {
      lines = lines.lines;
      lines_are = lines.are;
      text_is = wrote ∙ lines.text_is;
      whole = is.text commands [] text left none took;
    }
