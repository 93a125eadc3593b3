-- The effect of local calls, their exits and helper calls on a CPU state.
use Rattle.std.specs.Prelude.{◌≡◌, ℕ, ◌+◌, ◌≤◌, ℤ, pos, List, [], ◌∷◌, ◌++◌, nat_eq, nat_lt, if◌then◌else◌}
use Rattle.bpf_machine.specs.Limits.{frame_length}
use Rattle.guest_memory.specs.declared.fault.Fault.TheVariants.{F8}
use Rattle.helper_table.specs.Calls.{helper_row}
use Rattle.helper_table.specs.Laws.{ExtendsValues, Names}
use Rattle.helper_table.specs.Outcome.{Gives, Stops}
use Rattle.helper_table.specs.Tables.{IsTable}
use Rattle.insn_codec.specs.Codes.{register_number}
use Rattle.insn_codec.specs.declared.register.Register.{Register}
use Rattle.insn_codec.specs.declared.register.Register.TheVariants.{R1, R2, R3, R4, R5, R6, R7, R8, R9, R10}
use Rattle.value_store.specs.Placing.{charge_limit}
use Rattle.value_store.specs.Value.{ValueOrError}
use Rattle.bpf_machine.specs.declared.frame.Frame.{Frame}
use Rattle.expression_code.specs.CpuState.{CpuState, put_register}

-- the record of a local call at slot p
abbrev pub frame_at : ℕ → CpuState → Frame
frame_at p b = record { return_pc = pos (p + 1); r6 = b.registers R6; r7 = b.registers R7; r8 = b.registers R8; r9 = b.registers R9 }

-- the CPU state after the call opened a frame
abbrev pub entered : ℕ → CpuState → CpuState
entered p b =
    record b { records = b.records ++ frame_at p b ∷ []; registers = put_register b.registers R10 (b.registers R10 + frame_length) }

-- the CPU state after the exit: the records and R6 to R10 are the caller's again
abbrev pub resumed : CpuState → CpuState → CpuState
resumed caller b =
    record b { records = caller.records; registers = λ r. if nat_lt (register_number r) 6 then b.registers r else caller.registers r }

-- the words of R1 to R5
abbrev pub arguments_in : CpuState → List ℕ
arguments_in b = b.registers R1 ∷ b.registers R2 ∷ b.registers R3 ∷ b.registers R4 ∷ b.registers R5 ∷ []

-- the registers after a helper call: its word is in R0, and R1 to R5 are zero
abbrev pub after_call : (Register → ℕ) → ℕ → Register → ℕ
after_call word w r = if nat_eq (register_number r) 0 then w else (if nat_lt (register_number r) 6 then 0 else word r)

-- the CPU state after a helper call, with its word in R0, these values and this charge
abbrev pub answered : CpuState → ℕ → List ValueOrError → ℕ → CpuState
answered b w list charge = record b { registers = after_call b.registers w; values = record { values = list; charge = charge } }

-- the helper returns this word, with these values afterwards, at this cost
abbrev pub HelperReturns : ℤ → CpuState → ℕ → List ValueOrError → ℕ → Type 0
HelperReturns helper b w list cost = helper_row helper (arguments_in b) b.values.values b.memory.constants ≡ Gives w list cost

-- the helper stops for a depth
abbrev pub Refuses : ℤ → CpuState → Type 0
Refuses helper b = helper_row helper (arguments_in b) b.values.values b.memory.constants ≡ Stops F8

-- the helper returns a plain word at a cost, and adds no value
pub record Tells (helper : ℤ) (b : CpuState) (w cost : ℕ) : Type 0 where
  pub answers : HelperReturns helper b w b.values.values cost
  pub table : b.values.charge + cost ≤ charge_limit → IsTable (record { values = b.values.values; charge = b.values.charge + cost })

-- the helper returns a reference of the value or of the error, at a cost; old references keep their values
pub record HelperPlaces (helper : ℤ) (b : CpuState) (x : ValueOrError) (cost : ℕ) : Type 0 where
  pub word : ℕ
  pub list : List ValueOrError
  pub answers : HelperReturns helper b word list cost
  pub names : Names list word x
  pub extends : ExtendsValues b.values.values list
  pub table : b.values.charge + cost ≤ charge_limit → IsTable (record { values = list; charge = b.values.charge + cost })
