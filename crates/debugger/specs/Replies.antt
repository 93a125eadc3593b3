-- The text of a reply.
use Rattle.std.specs.Prelude.{◌≡◌, ℕ, Bool, true, List, [], ◌∷◌, ◌++◌, Result, codes, string_bytes, IfOk, OnErr, OnOk, if◌then◌else◌}
use Rattle.std.specs.declared.alloc.AllocError.{AllocError}
use Rattle.bpf_machine.specs.State.{State}
use Rattle.bpf_machine.specs.Text.{move_text}
use Rattle.bpf_machine.specs.Trace.{state_after}
use Rattle.debugger.specs.declared.reply.Reply.{Reply, TheVariants.Fixed, TheVariants.Text, TheVariants.Lines, TheVariants.Value}

-- the bytes of a reply
abbrev pub reply_text : Reply → List ℕ
reply_text (Fixed text) = text.now
reply_text (Text text) = text
reply_text (Lines lines) = string_bytes lines
reply_text (Value head json) = head ++ (string_bytes json ++ 10 ∷ [])

-- a move from one step of the run from s to another if that is in range; a failed
-- allocation leaves the step unchanged
pub record Moves (s : State) (in_range : Bool) (from to new : ℕ) (result : Result Reply AllocError) : Type 0 where
  pub place : OnOk result (new ≡ (if in_range then to else from))
  pub text : IfOk result (λ reply. reply_text reply ≡ (if in_range then move_text to (state_after to s) else codes "? range\n"))
  pub refused : OnErr result (in_range ≡ true)
  pub err : OnErr result (new ≡ from)
