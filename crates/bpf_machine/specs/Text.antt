-- The printed text of a state, as the debugger prints it after a move and for `r`.
use Rattle.std.specs.Prelude.{ℕ, ℤ, zero, suc, List, [], ◌∷◌, ◌++◌, codes, decimal, slice_index}
use Rattle.std.specs.Fmt.{signed_decimal}
use Rattle.guest_memory.specs.ErrorCodes.{fault_code}
pub use Rattle.insn_codec.specs.Lines.{wide_text as word_text}
pub use Rattle.insn_codec.specs.Lines.{hex_digit, hex_digits}
use Rattle.bpf_machine.specs.State.{State}
use Rattle.bpf_machine.specs.declared.status.Status.{Status, TheVariants.Running, TheVariants.Exited, TheVariants.Fault}

-- a printed status: with the word in R0 after an exit, or with the name of the fault
abbrev pub status_text : Status → List ℕ
status_text Running = codes "running"
status_text (Exited w) = codes "exited " ++ word_text w
status_text (Fault f) = codes "fault " ++ fault_code f

-- the line after a move to step k, with this `pc` and status
unfoldable pub move_line : ℕ → ℤ → Status → List ℕ
move_line k pc status = codes "step " ++
    (decimal k ++ (codes " pc " ++ (signed_decimal pc ++ (codes " " ++ (status_text status ++ 10 ∷ [])))))

-- the line after a move to step k, in this state
abbrev pub move_text : ℕ → State → List ℕ
move_text k s = move_line k s.pc s.status

-- the line of a register
unfoldable pub register_line : ℕ → ℕ → List ℕ
register_line number w = codes "r" ++ (decimal number ++ (codes " " ++ (word_text w ++ 10 ∷ [])))

-- the lines of the first n registers
unfoldable pub register_lines : ℕ → State → List ℕ
register_lines zero s = []
register_lines (suc n) s = register_lines n s ++ register_line n (slice_index s.registers n)

-- the lines of r0 to r10
unfoldable pub registers_text : State → List ℕ
registers_text s = register_lines 11 s
