-- The reply to each command.
use Rattle.std.specs.Prelude.{ℕ, ◌+◌, ◌-◌, Bool, true, false, not, ◌&&◌, List, [], ◌∷◌, ◌++◌, codes, decimal, nat_le, is_some, if◌then◌else◌}
use Rattle.bpf_machine.specs.State.{State}
use Rattle.bpf_machine.specs.Trace.{state_after}
use Rattle.bpf_machine.specs.Text.{move_text, registers_text}
use Rattle.history.specs.Search.{first_stop, last_stop}
use Rattle.insn_codec.specs.Limits.{slot_limit}
use Rattle.debugger.specs.Breakpoints.{has_breakpoint, with_breakpoint, without_breakpoint}
use Rattle.debugger.specs.Commands.{command_of}
use Rattle.debugger.specs.Inspection.{frames_text, memory_text, shown_bytes, value_at, value_text}
use Rattle.debugger.specs.Listing.{is_inside, listing_text}
use Rattle.debugger.specs.Verdict.{verdict_text}
use Rattle.debugger.specs.declared.command.Command.{Command, TheVariants.Quit, TheVariants.Unknown}
use Rattle.debugger.specs.declared.command.Command.TheVariants.{SetBreakpoint, ClearBreakpoint, Forward, Back, Go, Continue}
use Rattle.debugger.specs.declared.command.Command.TheVariants.{ReverseContinue, Registers, ValueAt, MemoryAt, Frames, Listing, Verdict}

-- the state of a session between two lines: the step that is shown, the slots with
-- a breakpoint, and whether it has ended
pub record SessionState : Type 0 where
  pub place : ℕ
  pub breakpoints : List ℕ
  pub ended : Bool

-- the session state after a line, and the text that is written
pub record Answer : Type 0 where
  pub next : SessionState
  pub text : List ℕ

-- the session state at step k, with these breakpoints
abbrev pub session_state_at : List ℕ → ℕ → Bool → SessionState
session_state_at slots k ended = record { place = k; breakpoints = slots; ended = ended }

-- whether a program can have a slot with this number: at most 65,535
abbrev pub is_slot : ℕ → Bool
is_slot n = nat_le n (slot_limit - 1)

-- whether a command accepts this number of steps: 1 to 1,000,000
abbrev pub in_range : ℕ → Bool
in_range n = nat_le 1 n && nat_le n 1000000

-- whether a command may go n steps forward from step k: n is in range, and step 1,000,000,000 is not passed
abbrev pub can_go_on : ℕ → ℕ → Bool
can_go_on k n = in_range n && nat_le (k + n) 1000000000

-- whether a command may go n steps back from step k: n is in range, and step 0 is not passed
abbrev pub can_go_back : ℕ → ℕ → Bool
can_go_back k n = in_range n && nat_le n k

-- whether step k may be shown: it is at most 1,000,000,000
abbrev pub can_go_to : ℕ → Bool
can_go_to k = nat_le k 1000000000

-- a reply that leaves the session state unchanged
abbrev pub says : SessionState → List ℕ → Answer
says w text = record { next = w; text = text }

-- a reply that changes only the breakpoints of the session state
abbrev pub sets_breakpoints : SessionState → List ℕ → List ℕ → Answer
sets_breakpoints w slots text = record { next = record w { breakpoints = slots }; text = text }

-- a move to step k of the run from s
abbrev pub moves_to : State → SessionState → ℕ → Answer
moves_to s w k = record { next = record w { place = k }; text = move_text k (state_after k s) }

-- the reply to a number that is out of range
abbrev pub out_of_range : SessionState → Answer
out_of_range w = says w (codes "? range\n")

-- the reply to a breakpoint that is set
unfoldable pub break_text : ℕ → List ℕ
break_text slot = codes "break " ++ (decimal slot ++ 10 ∷ [])

-- the reply to a breakpoint that is cleared
unfoldable pub clear_text : ℕ → List ℕ
clear_text slot = codes "clear " ++ (decimal slot ++ 10 ∷ [])

-- the session state after a command, and its reply, in a session with the run from s
unfoldable pub answer_of : State → SessionState → Command → Answer
answer_of s w (SetBreakpoint n) = if is_slot n then sets_breakpoints w (with_breakpoint n w.breakpoints) (break_text n) else out_of_range w
answer_of s w (ClearBreakpoint n) =
    if is_slot n then sets_breakpoints w (without_breakpoint n w.breakpoints) (clear_text n)
    else out_of_range w
answer_of s w (Forward n) = if can_go_on w.place n then moves_to s w (w.place + n) else out_of_range w
answer_of s w (Back n) = if can_go_back w.place n then moves_to s w (w.place - n) else out_of_range w
answer_of s w (Go k) = if can_go_to k then moves_to s w k else out_of_range w
answer_of s w (Continue n) = if can_go_on w.place n then moves_to s w (first_stop w.breakpoints s w.place n) else out_of_range w
answer_of s w ReverseContinue = moves_to s w (last_stop w.breakpoints s w.place)
answer_of s w Registers = says w (registers_text (state_after w.place s))
answer_of s w (ValueAt h) = says w (value_text h (value_at (state_after w.place s) h))
answer_of s w (MemoryAt address n) = says w (memory_text address (shown_bytes (state_after w.place s).memory address n))
answer_of s w Frames = says w (frames_text (state_after w.place s).records)
answer_of s w Listing = says w (listing_text (state_after w.place s))
answer_of s w Verdict = says w (verdict_text (state_after w.place s))
answer_of s w Quit = record { next = record w { ended = true }; text = [] }
answer_of s w Unknown = says w (codes "? what\n")

-- whether the allocation for a command may fail: for a new breakpoint, a move that is in
-- range, a value, a code listing, and a verdict
unfoldable pub may_be_refused : State → SessionState → Command → Bool
may_be_refused s w (SetBreakpoint n) = is_slot n && not (has_breakpoint n w.breakpoints)
may_be_refused s w (Forward n) = can_go_on w.place n
may_be_refused s w (Back n) = can_go_back w.place n
may_be_refused s w (Go k) = can_go_to k
may_be_refused s w (Continue n) = can_go_on w.place n
may_be_refused s w ReverseContinue = true
may_be_refused s w (ValueAt h) = is_some (value_at (state_after w.place s) h)
may_be_refused s w Listing = is_inside (state_after w.place s).image.code (state_after w.place s).pc
may_be_refused s w Verdict = true
may_be_refused s w _ = false

-- a line, and whether an allocation fails for it
abbrev pub Line : Type 0
Line = List ℕ × Bool

-- whether the allocation for the line fails; for a line that allocates nothing the mark is ignored
abbrev pub is_refused : State → SessionState → Line → Bool
is_refused s w l = l.1 && may_be_refused s w (command_of l.0)

-- the session state after a line, and its reply
unfoldable pub answer_to : State → SessionState → Line → Answer
answer_to s w l = if is_refused s w l then says w (codes "? memory\n") else answer_of s w (command_of l.0)
