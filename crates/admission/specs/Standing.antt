-- The end of the run of a policy's program when a review is answered.
use Rattle.std.specs.Prelude.{◌≡◌, ℕ, Bool, true, false, nat_lt, Result, Ok, Err}
use Rattle.guest_memory.specs.declared.fault.Fault.TheVariants.{F8}
use Rattle.loader.specs.Contents as loader
use Rattle.bpf_machine.specs.Reads.{limited_place, no_limit}
use Rattle.bpf_machine.specs.State.{State, start_state}
use Rattle.bpf_machine.specs.Trace.{state_after}
use Rattle.bpf_machine.specs.declared.status.Status.{Status, TheVariants.Exited, TheVariants.Fault, TheVariants.Running}
use Rattle.policy_glue.specs.Compiled.{IsProgram}
use Rattle.policy_glue.specs.Layout.{outcome_word}
use Rattle.policy_glue.specs.Policy.{Policy}
use Rattle.policy_glue.specs.Verdict.{Verdict}
use Rattle.admission.specs.Deciding.{Case, Documents, decision, started}
use Rattle.admission.specs.declared.limits.Limits.{Limits}
use Rattle.admission.specs.declared.run_error.RunError.{RunError}
use Rattle.admission.specs.declared.run_error.RunError.TheVariants.{PolicyRefused, ReviewRefused, NamespaceOrParamsRefused}
use Rattle.admission.specs.declared.run_error.RunError.TheVariants.{OutOfSteps, OverLimit, OutOfReads, Memory}

-- ---- images

-- a choice among the images that decide as a policy does
abbrev pub Images : Type 1
Images = Policy → loader.Image → Type 0

-- only this image
abbrev pub exactly : loader.Image → Policy → loader.Image → Type 0
exactly image p other = other ≡ image

-- ---- limits

-- n steps, and no limit of reads
abbrev pub steps_alone : ℕ → Limits
steps_alone n = record { steps = n; reads = no_limit }

-- ---- ends of runs

-- how a run within limits ends: the program has stopped with this status, or it still runs, since all its steps were
-- taken, or since the next helper call would bring what was read above the limit
pub data RunEnding : Type 0 where
  has_stopped : Status → RunEnding
  out_of_steps : RunEnding
  out_of_reads : RunEnding

-- by the last status, and whether a step is left
abbrev pub ending_by : Status → Bool → RunEnding
ending_by Running true = out_of_reads
ending_by Running false = out_of_steps
ending_by (Exited w) left = has_stopped (Exited w)
ending_by (Fault f) left = has_stopped (Fault f)

-- the number of steps that the run from a state takes within limits
abbrev pub steps_taken : Limits → State → ℕ
steps_taken limits s = limited_place limits.steps limits.reads s

-- the end of that run
abbrev pub ending : Limits → State → RunEnding
ending limits s = ending_by (state_after (steps_taken limits s) s).status (nat_lt (steps_taken limits s) limits.steps)

-- ---- runs

-- a policy's program with an image, and the roots that it runs on
pub record PolicyRun (d : Documents) : Type 0 where
  pub case : Case d
  pub image : loader.Image
  pub program : IsProgram case.policy.parsed.failure_policy case.policy.trees image

-- its first state
abbrev pub begins : {d : Documents} → PolicyRun d → State
begins run = start_state run.image (started run.case.roots)

-- within these limits the program of a chosen image ends as is due for the policy's decision
pub record PolicyRunEnds (chosen : Images) (d : Documents) (limits : Limits) (due : Verdict → RunEnding) : Type 0 where
  pub run : PolicyRun d
  pub is_chosen : chosen run.case.policy.parsed run.image
  pub ends : ending limits (begins run) ≡ due (decision run.case)

-- The run of the program matches the result. If there is a reply, a decision or findings, the program has exited with
-- the outcome's word. `OverLimit`: F8 stopped it. `OutOfSteps`: it still runs after all steps, and what they read is
-- within the limit. `OutOfReads`: it still runs with steps left, and the next one would read more than the limit allows.
-- Of the other errors nothing is stated here.
abbrev pub RunAgrees : {A : Type 0} → Images → Documents → Limits → Result A RunError → Type 0
RunAgrees chosen d limits (Ok a) = PolicyRunEnds chosen d limits (λ v. has_stopped (Exited (outcome_word v.outcome)))
RunAgrees chosen d limits (Err (PolicyRefused e)) = Unit {0}
RunAgrees chosen d limits (Err ReviewRefused) = Unit {0}
RunAgrees chosen d limits (Err NamespaceOrParamsRefused) = Unit {0}
RunAgrees chosen d limits (Err OutOfSteps) = PolicyRunEnds chosen d limits (λ v. out_of_steps)
RunAgrees chosen d limits (Err OverLimit) = PolicyRunEnds chosen d limits (λ v. has_stopped (Fault F8))
RunAgrees chosen d limits (Err OutOfReads) = PolicyRunEnds chosen d limits (λ v. out_of_reads)
RunAgrees chosen d limits (Err Memory) = Unit {0}
