-- The state in which the program of a policy has exited on a review, and its verdict.
use Rattle.std.specs.Prelude.{◌≡◌, ℕ, ◌≤◌, List, length, Result, Ok, Err}
use Rattle.guest_memory.specs.Memory.{IsMemory}
use Rattle.bpf_machine.specs.State.{State}
use Rattle.run_ends.specs.declared.no_exit.NoExit.{NoExit, TheVariants.Stopped}
use Rattle.run_ends.specs.declared.no_exit.NoExit.TheVariants as no_exit
use Rattle.policy_glue.specs.Layout.{IsLayout}
use Rattle.policy_glue.specs.Policy.{Policy}
use Rattle.policy_glue.specs.Verdict.{Verdict}
use Rattle.admission.specs.Deciding.{Case, Documents, HasNoResponse, decision}
use Rattle.admission.specs.Reviews.{uid_in}
use Rattle.admission.specs.declared.limits.Limits.{Limits}
use Rattle.admission.specs.declared.run_error.RunError.{RunError, TheVariants.OutOfSteps, TheVariants.OverLimit, TheVariants.OutOfReads}

-- the state after the exit, and the uid of the request
pub record Exit : Type 0 where
  pub state : State
  pub uid : List ℕ

-- the code's result, with the uid
abbrev pub exit_view : List ℕ → Result State RunError → Result Exit RunError
exit_view uid (Ok state) = Ok (record { state = state; uid = uid })
exit_view uid (Err e) = Err e

-- why a review has no response if the program has not exited
abbrev pub no_exit_error : NoExit → RunError
no_exit_error Stopped = OverLimit
no_exit_error no_exit.OutOfReads = OutOfReads
no_exit_error no_exit.OutOfSteps = OutOfSteps

-- the state after a run that exited, or why it did not
abbrev pub exit_state : State → Result (Unit {0}) RunError → Result State RunError
exit_state s (Ok u) = Ok s
exit_state s (Err e) = Err e

-- the verdict region holds the verdict of this policy, as its messages tell it, and the uid is that of the request; that
-- the program has exited is said by `RunAgrees`
pub record IsExit (p : Policy) (d : Documents) (exit : Exit) : Type 0 where
  pub case : Case d
  pub of_policy : case.policy.told ≡ p
  pub is_memory : IsMemory exit.state.memory
  pub few : length (decision case).findings ≤ length p.validations
  pub layout : IsLayout p.failure_policy (decision case) exit.state.values.values exit.state.memory.verdict
  pub uid_is : exit.uid ≡ uid_in d.review

-- the state holds the verdict, or an error that the review may have
abbrev pub Exits : Policy → Documents → Limits → Result Exit RunError → Type 0
Exits p d limits (Ok exit) = IsExit p d exit
Exits p d limits (Err e) = HasNoResponse d limits e

-- ---- parts

-- `holds` is true of each verdict that the verdict region encodes
abbrev pub OfVerdict : Policy → State → (Verdict → Type 0) → Type 0
OfVerdict p s holds = (v : Verdict) → IsMemory s.memory → length v.findings ≤ length p.validations
    → IsLayout p.failure_policy v s.values.values s.memory.verdict → holds v
