-- The program celbpf, as the page on its commands describes it: words that it refuses, the statuses of runs, and how
-- sessions end.
use Rattle.std.specs.Prelude.{◌≡◌, List, [], ◌∷◌, Some, None, Ok, Err, codes}
use Rattle.clap.specs.Words.{Text}
use Rattle.guest_memory.specs.declared.fault.Fault.TheVariants.{F1, F8}
use Rattle.bpf_machine.specs.declared.status.Status.TheVariants as status
use Rattle.streams.specs.declared.session_error.SessionError.TheVariants as session_error
use Rattle.cli.specs.declared.refusal.Refusal.TheVariants as refusal
use Rattle.review_runner.specs.Commands.{faults}
use Rattle.review_runner.specs.Effect.{Hold, session_ending}
use Rattle.review_runner.specs.Output.{run_status}
use Rattle.review_runner.specs.Rows.{IsRead, with_steps}

-- celbpf run-image
abbrev pub without_file : List Text
without_file = codes "celbpf" ∷ codes "run-image" ∷ []

-- celbpf run-image a.img --steps 0
abbrev pub without_a_step : List Text
without_a_step = codes "celbpf" ∷ codes "run-image" ∷ codes "a.img" ∷ codes "--steps" ∷ codes "0" ∷ []

-- celbpf
abbrev pub without_command : List Text
without_command = codes "celbpf" ∷ []

-- celbpf review --review r.json
abbrev pub without_policy : List Text
without_policy = codes "celbpf" ∷ codes "review" ∷ codes "--review" ∷ codes "r.json" ∷ []

-- a command needs its files and a number of steps may be 0; there is no run without a command
pub record CommandWordsHold : Type 0 where
  pub no_file : faults without_file ≡ [] → ⊥
  pub no_command : faults without_command ≡ [] → ⊥
  pub no_policy : faults without_policy ≡ [] → ⊥
  pub no_step : faults without_a_step ≡ []
  pub two_digits : IsRead (with_steps (codes "10")) (codes "run-image") (Some (codes "a.img") ∷ []) 10

-- a run ends with status 0 if it exited, 1 if a fault stopped it, and 4 if it has not stopped; a session that breaks
-- off is refused with S1, S2 or `memory`
pub record EndRowsHold : Type 0 where
  pub exited : run_status (status.Exited 3) ≡ 0
  pub exited_with_zero : run_status (status.Exited 0) ≡ 0
  pub stopped : run_status (status.Fault F1) ≡ 1
  pub stopped_by_its_charge : run_status (status.Fault F8) ≡ 1
  pub running : run_status status.Running ≡ 4
  pub session : session_ending (Ok tt) ≡ Ok 0
  pub session_unread : session_ending (Err session_error.ReadFailed) ≡ Err refusal.Input
  pub session_unwritten : session_ending (Err session_error.WriteFailed) ≡ Err refusal.Output
  pub session_without_memory : session_ending (Err session_error.Memory) ≡ Err refusal.Memory

-- an option that is left out names no file, and each name has bytes
pub record HeldRowsHold : Type 0 where
  pub no_names : Hold None [] []
  pub left_out : Hold None (None ∷ []) (None ∷ [])
  pub held_though_left_out : Hold None (None ∷ []) (Some [] ∷ []) → ⊥
  pub not_held : Hold None (Some (codes "a.img") ∷ []) (None ∷ []) → ⊥
  pub one_of_two : Hold None (Some (codes "a.img") ∷ None ∷ []) (Some [] ∷ []) → ⊥
  pub more_than_named : Hold None [] (None ∷ []) → ⊥
