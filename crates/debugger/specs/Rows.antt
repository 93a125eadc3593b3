-- Sessions worked out by hand.
use Rattle.std.specs.Prelude.{◌≡◌, ℕ, true, false, List, [], ◌∷◌, ◌++◌, codes, map, replicate}
use Rattle.bpf_machine.specs.State.{State, null_values, start_state}
use Rattle.bpf_machine.specs.Rows.{start_of}
use Rattle.loader.specs.declared.version.Version.{Version, TheVariants.First, TheVariants.Second}
use Rattle.debugger.specs.Answers.{Line, SessionState, answer_to, can_go_on, can_go_to}
use Rattle.debugger.specs.Breakpoints.{in_order, with_breakpoint}
use Rattle.debugger.specs.Commands.{command_of}
use Rattle.debugger.specs.Session.{Dialogue, dialogue_of, granted, says_memory, session_text}
use Rattle.streams.specs.Lines.{cut}
use Rattle.debugger.specs.Transcript.{IsDialogue}
use Rattle.debugger.specs.declared.command.Command.TheVariants.{Forward, MemoryAt, Unknown}

-- r0 = 5; exit
abbrev pub five : State
five = start_of (0xb7 ∷ 0 ∷ 0 ∷ 0 ∷ 5 ∷ 0 ∷ 0 ∷ 0 ∷ 0x95 ∷ 0 ∷ 0 ∷ 0 ∷ 0 ∷ 0 ∷ 0 ∷ 0 ∷ [])

-- r0 = 5
abbrev pub open_ended : State
open_ended = start_of (0xb7 ∷ 0 ∷ 0 ∷ 0 ∷ 5 ∷ 0 ∷ 0 ∷ 0 ∷ [])

-- a jump to the second slot of a wide load, the wide load, and exit
abbrev pub inside_wide : State
inside_wide =
    start_of
    (0x05 ∷ 0 ∷ 0x01 ∷ 0 ∷ 0 ∷ 0 ∷ 0 ∷ 0 ∷ 0x18 ∷ 0 ∷ 0 ∷ 0 ∷ 5 ∷ 0 ∷ 0 ∷ 0 ∷ 0 ∷ 0 ∷ 0 ∷ 0 ∷ 0 ∷ 0 ∷ 0 ∷ 0 ∷ 0x95 ∷ 0 ∷ 0 ∷ 0 ∷ 0 ∷ 0 ∷ 0
    ∷ 0 ∷ [])

-- a call of itself
abbrev pub calls_itself : State
calls_itself = start_of (0x85 ∷ 0x10 ∷ 0 ∷ 0 ∷ 0xff ∷ 0xff ∷ 0xff ∷ 0xff ∷ [])

-- exit
abbrev exit_slot : List ℕ
exit_slot = 0x95 ∷ 0 ∷ 0 ∷ 0 ∷ 0 ∷ 0 ∷ 0 ∷ 0 ∷ []

-- exit, nine times
abbrev pub nine_exits : State
nine_exits =
    start_of
    (exit_slot ++ (exit_slot ++ (exit_slot ++ (exit_slot ++ (exit_slot ++ (exit_slot ++ (exit_slot ++ (exit_slot ++ exit_slot))))))))

-- r1 = 0x300000000; the words at 0, 8 and 16 become 3, 1 and 1, the byte at 17 becomes 1, the words at 520, 528, 1032
-- and 1040 become 2, 9, -1 and 7; exit
abbrev pub leaves_words : Version → State
leaves_words version =
    start_state
    (record {
      version = version;
      code =
          0x18 ∷ 1 ∷ 0 ∷ 0 ∷ 0 ∷ 0 ∷ 0 ∷ 0 ∷ 0 ∷ 0 ∷ 0 ∷ 0 ∷ 3 ∷ 0 ∷ 0 ∷ 0 ∷ 0x7a ∷ 1 ∷ 0 ∷ 0 ∷ 3 ∷ 0 ∷ 0 ∷ 0
          ∷ 0x7a ∷ 1 ∷ 8 ∷ 0 ∷ 1 ∷ 0 ∷ 0 ∷ 0 ∷ 0x7a ∷ 1 ∷ 0x10 ∷ 0 ∷ 1 ∷ 0 ∷ 0 ∷ 0 ∷ 0x72 ∷ 1 ∷ 0x11 ∷ 0 ∷ 1 ∷ 0 ∷ 0 ∷ 0
          ∷ 0x7a ∷ 1 ∷ 8 ∷ 2 ∷ 2 ∷ 0 ∷ 0 ∷ 0 ∷ 0x7a ∷ 1 ∷ 0x10 ∷ 2 ∷ 9 ∷ 0 ∷ 0 ∷ 0 ∷ 0x7a ∷ 1 ∷ 8 ∷ 4 ∷ 0xff ∷ 0xff ∷ 0xff ∷ 0xff
          ∷ 0x7a ∷ 1 ∷ 0x10 ∷ 4 ∷ 7 ∷ 0 ∷ 0 ∷ 0 ∷ 0x95 ∷ 0 ∷ 0 ∷ 0 ∷ 0 ∷ 0 ∷ 0 ∷ 0 ∷ [];
      constants = [];
    })
    null_values

-- the lines of the registers after R0 is 5
abbrev pub five_registers : List ℕ
five_registers =
    codes "r0 0x0000000000000005\nr1 0x0000000000000000\nr2 0x0000000000000000\nr3 0x0000000000000000\n"
    ++ (codes "r4 0x0000000000000000\nr5 0x0000000000000000\nr6 0x0000000000000000\nr7 0x0000000000000000\n"
    ++ codes "r8 0x0000000000000000\nr9 0x0000000000000000\nr10 0x0000000100000200\n")

-- the line of a frame whose caller is at slot 1, with zeros in R6 to R9
abbrev pub empty_frame : List ℕ
empty_frame = codes "return 1 r6 0x0000000000000000 r7 0x0000000000000000 r8 0x0000000000000000 r9 0x0000000000000000\n"

-- sessions with the text that they write, and lines with their commands
pub record SessionRowsHold : Type 0 where
  pub moves : session_text five (codes "s 1\nrs 1\nrs 1\ns 0\ns 01\ns 1000001\nx\nq\n")
      ≡ codes "step 1 pc 1 running\nstep 0 pc 0 running\n? range\n? range\n? what\n? range\n? what\n"
  pub stops : session_text five (codes "s 2\ns 3\nrs 4")
      ≡ codes "step 2 pc 1 exited 0x0000000000000005\nstep 5 pc 1 exited 0x0000000000000005\nstep 1 pc 1 running\n"
  pub ends : session_text five (codes "q\ns 1\n") ≡ []
  pub has_no_form : session_text five (codes "\ns\ns \ns  1\n s 1\ns 1 \ns 1\r\ns -1\nrs\nR\n")
      ≡ codes "? what\n? what\n? what\n? what\n? what\n? what\n? what\n? what\n? what\n? what\n"
  pub shows_registers : session_text five (codes "s 1\nr")
      ≡ codes "step 1 pc 1 running\n" ++ five_registers
  pub breaks : session_text five (codes "b 1\nd 1\nc 10\nr\n")
      ≡ codes "break 1\nclear 1\nstep 2 pc 1 exited 0x0000000000000005\n" ++ five_registers
  pub searches : session_text five (codes "b 1\nc 10\nrs 1\nrs 1\nrc\nbogus\n")
      ≡ codes "break 1\nstep 1 pc 1 running\nstep 0 pc 0 running\n? range\nstep 0 pc 0 running\n? what\n"
  pub searches_back : session_text five (codes "b 0\nb 1\ns 2\nrc\nrc\nrc\n")
      ≡ codes "break 0\nbreak 1\nstep 2 pc 1 exited 0x0000000000000005\nstep 1 pc 1 running\nstep 0 pc 0 running\nstep 0 pc 0 running\n"
  pub clears_once : session_text five (codes "b 1\nb 1\nd 1\nc 1\nd 1\nd 7\n")
      ≡ codes "break 1\nbreak 1\nclear 1\nstep 1 pc 1 running\nclear 1\nclear 7\n"
  pub goes : session_text five (codes "g 2\nc 10\ng 0\n")
      ≡ codes "step 2 pc 1 exited 0x0000000000000005\nstep 3 pc 1 exited 0x0000000000000005\nstep 0 pc 0 running\n"
  pub limits : session_text five (codes "b 65535\nb 65536\nd 65536\ng 1000000001\nc 0\nc 1000001\nrc x\nb 01\nl 1\nb\n")
      ≡ codes "break 65535\n? range\n? range\n? range\n? range\n? range\n? what\n? what\n? what\n? what\n"
  pub lists_code : session_text five (codes "l\ns 1\nl\n") ≡ codes "0 mov64 r0, 5\n1 exit\nstep 1 pc 1 running\n1 exit\n"
  pub lists_inside : session_text inside_wide (codes "l\ns 2\nl\n")
      ≡ codes "0 ja +1\n1 lddw r0, 0x0000000000000005\n3 exit\nstep 2 pc 2 fault F2\n2 .slot 0x0000000000000000\n3 exit\n"
  pub lists_eight : session_text nine_exits (codes "l\n") ≡ codes "0 exit\n1 exit\n2 exit\n3 exit\n4 exit\n5 exit\n6 exit\n7 exit\n"
  pub lists_outside : session_text open_ended (codes "s 2\nl\n") ≡ codes "step 2 pc 1 fault F1\n1 outside\n"
  pub shows_values : session_text five (codes "s 5\nv 3\nv 0\nv 4\nv 9\nm 0x300000000 2\n")
      ≡ codes "step 5 pc 1 exited 0x0000000000000005\nvalue 3 true\nvalue 0 error\nvalue 4 null\n? range\n0x0000000300000000 00 00\n"
  pub shows_memory : session_text five (codes "m 0x1000001f8 17\nm 0x3000007ff 1\nm 0x3000007ff 2\nm 0x2ffffffff 1\nm 0x400000000 1\n")
      ≡ codes "0x00000001000001f8 00 00 00 00 00 00 00 00 00 00 00 00 00 00 00 00\n0x0000000100000208 00\n0x00000003000007ff 00\n? range\n? range\n? range\n"
  pub counts_bytes : session_text five
      (codes
      "m 0x300000000 0\nm 0x300000000 257\nm 0xffffffffffffffff 1\nm 0x 1\nm 0x3A 1\nm 0x00000000300000000 1\nm 0x300000000 01\nm 0x300000000\nm 300000000 1\n")
      ≡ codes "? range\n? range\n? range\n? what\n? what\n? what\n? what\n? what\n? what\n"
  pub shows_frames : session_text calls_itself (codes "f\ns 8\nf\n")
      ≡ codes "depth 0\nstep 8 pc 0 fault F7\ndepth 7\n"
      ++ (empty_frame ++ (empty_frame ++ (empty_frame ++ (empty_frame ++ (empty_frame ++ (empty_frame ++ empty_frame))))))
  pub shows_verdict : session_text five (codes "w\nw 1\nW\n") ≡ codes "verdict 0 0\n? what\n? what\n"
  pub shows_words : session_text (leaves_words First) (codes "c 100\nw\ng 3\nw\n")
      ≡ codes "step 10 pc 10 exited 0x0000000000000000\nverdict 3 1\nvalidation 0 257\nvalidation 63 2\nstep 3 pc 4 running\nverdict 3 1\n"
  pub shows_messages : session_text (leaves_words Second) (codes "c 100\nw\n")
      ≡ codes "step 10 pc 10 exited 0x0000000000000000\nverdict 3 1\nvalidation 0 257\nvalidation 63 2\nmessage 0 9\nmessage 63 18446744073709551615\n"
  pub refuses_verdicts : (dialogue_of five ((codes "w", true) ∷ (codes "w", false) ∷ [])).text ≡ codes "? memory\nverdict 0 0\n"
  pub reads_addresses : command_of (codes "m 0x00000003000000ff 5") ≡ MemoryAt 0x3000000ff 5
  pub goes_to_the_last_place : can_go_to 1000000000 ≡ true
  pub goes_to_no_later_place : can_go_to 1000000001 ≡ false
  pub goes_on_to_the_last_place : can_go_on 999999999 1 ≡ true
  pub goes_on_to_no_later_place : can_go_on 1000000000 1 ≡ false
  pub set_below : with_breakpoint 1 (2 ∷ []) ≡ 1 ∷ 2 ∷ []
  pub set_above : with_breakpoint 3 (2 ∷ []) ≡ 2 ∷ 3 ∷ []
  pub set_again : with_breakpoint 2 (2 ∷ []) ≡ 2 ∷ []
  pub reads_letters : command_of (codes "m 0xabcdef 5") ≡ MemoryAt 0xabcdef 5
  pub reads_no_letter_past_f : command_of (codes "m 0x3000000g0 5") ≡ Unknown
  pub refuses_values :
      (dialogue_of five
      ((codes "v 3", true) ∷ (codes "v 9", true) ∷ (codes "v 18446744073709551616", true) ∷ (codes "m 0x300000000 1", true)
      ∷ (codes "f", true) ∷ [])).text
      ≡ codes "? memory\n? range\n? range\n0x0000000300000000 00\ndepth 0\n"
  pub reads_64_bytes : command_of (codes "s " ++ replicate 62 49) ≡ Forward 11111111111111111111111111111111111111111111111111111111111111
  pub reads_no_65 : command_of (codes "s " ++ replicate 63 49) ≡ Unknown
  pub refuses_moves : (dialogue_of five ((codes "s 1", true) ∷ (codes "s 1", false) ∷ [])).text ≡ codes "? memory\nstep 1 pc 1 running\n"
  pub refuses_new :
      (dialogue_of five
      ((codes "b 1", true) ∷ (codes "b 1", false) ∷ (codes "b 1", true) ∷ (codes "c 5", true) ∷ (codes "l", true) ∷ [])).text
      ≡ codes "? memory\nbreak 1\nbreak 1\n? memory\n? memory\n"
  pub refuses_no_more :
      (dialogue_of five
      ((codes "s 0", true) ∷ (codes "b 65536", true) ∷ (codes "d 3", true) ∷ (codes "x", true) ∷ (codes "q", true) ∷ [])).text
      ≡ codes "? range\n? range\nclear 3\n? what\n"

-- if no line of the text is `? memory`, the text is complete for its lines
abbrev pub TellsAll : Type 0
TellsAll = (s : State) (lines : List (List ℕ)) (t : Dialogue) → IsDialogue s lines t → says_memory t.text ≡ false
    → t ≡ dialogue_of s (map granted lines)

-- every reply is whole lines
abbrev pub AnswersInLines : Type 0
AnswersInLines = (s : State) (w : SessionState) (l : Line) → (cut (answer_to s w l).text).1 ≡ []

-- the breakpoints are always in order without duplicates
abbrev pub StaysInOrder : Type 0
StaysInOrder = (s : State) (lines : List Line) → in_order (dialogue_of s lines).session_state.breakpoints ≡ true
