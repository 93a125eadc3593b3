-- Runs of the machine from one slot to another, within a budget of steps and one of charge.
use Rattle.std.specs.Prelude.{◌≡◌, ℕ, ◌+◌, ◌<◌, ◌≤◌, ◌⊎◌, List, [], ◌++◌, Some, pos, Bool, true}
use Rattle.guest_memory.specs.declared.fault.Fault.TheVariants.{F8}
use Rattle.insn_codec.specs.declared.insn.Insn.TheVariants.{Exit}
use Rattle.insn_codec.specs.declared.register.Register.TheVariants.{R0}
use Rattle.loader.specs.Contents.{Image}
use Rattle.value_store.specs.Placing.{charge_limit}
use Rattle.bpf_machine.specs.Decoding.{fetched}
use Rattle.bpf_machine.specs.State.{State}
use Rattle.bpf_machine.specs.Trace.{state_after}
use Rattle.bpf_machine.specs.declared.frame.Frame.{Frame}
use Rattle.bpf_machine.specs.declared.status.Status.TheVariants.{Exited, Fault}
use Rattle.expression_code.specs.CpuState.{CpuState, at}
use Rattle.expression_code.specs.FirstUses.{FirstUse, StayFilled, first_uses, pending}

-- the image that runs, the variables whose first uses are paid for in addition to the budgets, and whether a value
-- may become too deep
pub record RunContext : Type 0 where
  pub image : Image
  pub variables : List FirstUse
  pub is_deep : Bool

-- the steps that may be taken from b on: n, plus those of first uses since then; the scratch region is now `scratch`,
-- and these calls were opened and are still open
abbrev pub steps_to : RunContext → ℕ → CpuState → List ℕ → List Frame → ℕ
steps_to s n b scratch calls = n + first_uses s.image s.variables (λ v. v.steps) b.memory.scratch scratch calls

-- the charge that may be reached: that of b, plus x, plus that of first uses since then
abbrev pub charge_to : RunContext → ℕ → CpuState → List ℕ → List Frame → ℕ
charge_to s x b scratch calls =
    b.values.charge + x + first_uses s.image s.variables (λ v. v.charge) b.memory.scratch scratch calls

-- a run in which no variable is first used, or no first use is paid for, has only its own budgets
pub record OwnBudgets : Type 0 where
  pub unused_steps : (s : RunContext) (n : ℕ) (b : CpuState) → steps_to s n b b.memory.scratch [] ≡ n
  pub unused_charge : (s : RunContext) (x : ℕ) (b : CpuState) → charge_to s x b b.memory.scratch [] ≡ b.values.charge + x
  pub steps : (image : Image) (deep : Bool) (n : ℕ) (b : CpuState) (scratch : List ℕ) (calls : List Frame)
      → steps_to (record { image = image; variables = []; is_deep = deep }) n b scratch calls ≡ n
  pub charge : (image : Image) (deep : Bool) (x : ℕ) (b : CpuState) (scratch : List ℕ) (calls : List Frame)
      → charge_to (record { image = image; variables = []; is_deep = deep }) x b scratch calls ≡ b.values.charge + x

-- a reason to stop: the charge is above the limit, or a value may be too deep
abbrev pub IsSpent : RunContext → ℕ → Type 0
IsSpent s charge = (charge_limit < charge) ⊎ (s.is_deep ≡ true)

-- The machine reaches t from b0 in k steps. Either it has stopped for its charge or a depth, with the calls opened
-- since b0 and still open after b0's records. Or it is at slot p with these records and the fact Q. Both hold within
-- the budgets and the cost of first uses since b0.
pub data RunEnds (s : RunContext) (n x : ℕ) (b0 : CpuState) (records : List Frame) (p : ℕ) (Q : CpuState → Type 0) (k : ℕ)
    (t : State) : Type 0 where
  Faulted : (calls : List Frame) → t.status ≡ Fault F8 → t.records ≡ b0.records ++ calls
      → StayFilled b0.memory.scratch t.memory.scratch
      → k ≤ steps_to s n b0 t.memory.scratch calls → IsSpent s (charge_to s x b0 t.memory.scratch calls)
      → RunEnds s n x b0 records p Q k t
  Arrived : (b : CpuState) → t ≡ at s.image p b → b.records ≡ records
      → StayFilled b0.memory.scratch b.memory.scratch
      → k ≤ steps_to s n b0 b.memory.scratch [] → b.values.charge ≤ charge_to s x b0 b.memory.scratch []
      → Q b → RunEnds s n x b0 records p Q k t

-- from slot p and CPU state b the machine runs to slot p1 with these records and the fact Q, within n steps and x of
-- charge, or it stops for its charge or a depth
pub record RunsToWith (s : RunContext) (n x p : ℕ) (b : CpuState) (records : List Frame) (p1 : ℕ) (Q : CpuState → Type 0) : Type 0 where
  pub steps : ℕ
  pub ends : RunEnds s n x b records p1 Q steps (state_after steps (at s.image p b))

-- the same with unchanged records
abbrev pub RunsTo : RunContext → (n x p : ℕ) → CpuState → ℕ → (CpuState → Type 0) → Type 0
RunsTo s n x p b p1 Q = RunsToWith s n x p b b.records p1 Q

-- t has exited with the fact Q and with R0's word, or has stopped for its charge or a depth
pub data ExitsOrRunsOut (s : RunContext) (x : ℕ) (b0 : CpuState) (Q : CpuState → Type 0) (t : State) : Type 0 where
  OutOfBudget : (calls : List Frame) → t.status ≡ Fault F8 → t.records ≡ b0.records ++ calls
      → StayFilled b0.memory.scratch t.memory.scratch
      → IsSpent s (charge_to s x b0 t.memory.scratch calls) → ExitsOrRunsOut s x b0 Q t
  LeavesByExit : (p : ℕ) (b : CpuState) → t ≡ record (at s.image p b) { status = Exited (b.registers R0) }
      → StayFilled b0.memory.scratch b.memory.scratch
      → b.values.charge ≤ charge_to s x b0 b.memory.scratch [] → Q b → ExitsOrRunsOut s x b0 Q t

-- code that runs to an exit has stopped there after its budget, the steps of all variables with an empty memo, and
-- one more step
abbrev pub RunsToExit : Type 1
RunsToExit = (s : RunContext) (n x p q m : ℕ) (b : CpuState) (Q : CpuState → Type 0)
    → RunsTo s n x p b q Q → fetched s.image.code (pos q) ≡ Some (Some Exit) → ((b1 : CpuState) → Q b1 → b1.records ≡ [])
    → n + pending s.variables (λ v. v.steps) b.memory.scratch < m
    → ExitsOrRunsOut s x b Q (state_after m (at s.image p b))
