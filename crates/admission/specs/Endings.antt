-- Which end a run within limits has, in words.
use Rattle.std.specs.Prelude.{◌≡◌, ◌≢◌, ℕ, ◌+◌, ◌<◌, ◌≤◌, ◌↔◌, true, false}
use Rattle.bpf_machine.specs.Reads.{is_within, reads_to}
use Rattle.bpf_machine.specs.State.{State}
use Rattle.bpf_machine.specs.Step.{is_running}
use Rattle.bpf_machine.specs.Trace.{state_after}
use Rattle.bpf_machine.specs.declared.status.Status.{Status, TheVariants.Running}
use Rattle.admission.specs.Standing.{ending, ending_by, has_stopped, out_of_reads, out_of_steps, steps_alone}
use Rattle.admission.specs.declared.limits.Limits.{Limits}

-- the machine still runs after m steps, and these read no more than the limit
pub record IsAt (s : State) (reads m : ℕ) : Type 0 where
  pub runs : (state_after m s).status ≡ Running
  pub within : is_within reads (reads_to m s) ≡ true

-- out of steps: it is so after all steps
abbrev pub OutOfStepsOnly : Type 0
OutOfStepsOnly = (s : State) (limits : Limits) → (ending limits s ≡ out_of_steps) ↔ IsAt s limits.reads limits.steps

-- out of reads: it is so after fewer steps, and the next one would read more than the limit allows
pub record IsHeldByReads (s : State) (limits : Limits) : Type 0 where
  pub place : ℕ
  pub before : place < limits.steps
  pub at : IsAt s limits.reads place
  pub beyond : is_within limits.reads (reads_to (place + 1) s) ≡ false

abbrev pub OutOfReadsOnly : Type 0
OutOfReadsOnly = (s : State) (limits : Limits) → (ending limits s ≡ out_of_reads) ↔ IsHeldByReads s limits

-- stopped: the machine runs before a place within the limits, and there it has this status, and does not run
pub record IsStoppedBy (s : State) (limits : Limits) (status : Status) : Type 0 where
  pub place : ℕ
  pub at_most : place ≤ limits.steps
  pub running : (k : ℕ) → k < place → (state_after k s).status ≡ Running
  pub status_is : (state_after place s).status ≡ status
  pub stopped : is_running status ≡ false
  pub within : is_within limits.reads (reads_to place s) ≡ true

abbrev pub StoppedOnly : Type 0
StoppedOnly = (s : State) (limits : Limits) (status : Status) → (ending limits s ≡ has_stopped status) ↔ IsStoppedBy s limits status

-- with no limit of reads the end is by the state after n steps
abbrev pub NoLimitOfReads : Type 0
NoLimitOfReads = (s : State) (n : ℕ) → ending (steps_alone n) s ≡ ending_by (state_after n s).status false

-- a greater limit of reads changes only the end that the lower one brought
abbrev pub GreaterLimitDecides : Type 0
GreaterLimitDecides = (s : State) (n low high : ℕ) → low ≤ high → ending (record { steps = n; reads = low }) s ≢ out_of_reads
    → ending (record { steps = n; reads = high }) s ≡ ending (record { steps = n; reads = low }) s
