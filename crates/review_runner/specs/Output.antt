-- The result of an order: the exit status, and what is written.
use Rattle.std.specs.Prelude.{ℕ, List, [], Result, Ok, Err}
use Rattle.loader.specs.declared.load_error.LoadError.{LoadError}
use Rattle.bpf_machine.specs.declared.status.Status.{Status, TheVariants.Running, TheVariants.Exited, TheVariants.Fault}
use Rattle.host.specs.FileSystem.{FileRead}
use Rattle.cli.specs.Refusals.{file_refusal, load_refusal, refusal_line, refusal_status}
use Rattle.review_runner.specs.Running.{RunShown, run_of_file}
use Rattle.review_runner.specs.declared.report.Report.{Report as CodeReport}
use Rattle.review_runner.specs.declared.done.Done.{Done as CodeDone}
use Rattle.cli.specs.declared.refusal.Refusal.{Refusal}

-- ---- outcomes

-- the status, and the bytes of standard output
pub record Report : Type 0 where
  pub status : ℕ
  pub out : List ℕ

-- the result of an order
abbrev pub OrderOutcome : Type 0
OrderOutcome = Result Report Refusal

-- a result of the code
abbrev pub report_of : CodeReport → Report
report_of a = record { status = a.status; out = a.out.items }

-- a result of the code, or its refusal
abbrev pub outcome_of : Result CodeReport Refusal → OrderOutcome
outcome_of (Ok a) = Ok (report_of a)
outcome_of (Err r) = Err r

-- success, with these bytes for standard output
abbrev pub succeeded : List ℕ → Report
succeeded out = record { status = 0; out = out }

-- the statuses of a run that exited, that was stopped by a fault, and that has not stopped
abbrev pub run_status : Status → ℕ
run_status (Exited w) = 0
run_status (Fault f) = 1
run_status Running = 4

-- the result of a run, or of a file that holds no image
abbrev pub run_outcome : Result RunShown LoadError → OrderOutcome
run_outcome (Ok shown) = Ok (record { status = run_status shown.status; out = shown.text })
run_outcome (Err e) = Err (load_refusal e)

-- the result of `run-image`, given the result of reading its file
abbrev pub run_image_outcome : FileRead → ℕ → OrderOutcome
run_image_outcome (Ok file) n = run_outcome (run_of_file file n)
run_image_outcome (Err e) n = Err (file_refusal e)

-- ---- both outputs

-- the status, and the bytes of standard output and of standard error
pub record Done : Type 0 where
  pub status : ℕ
  pub out : List ℕ
  pub err : List ℕ

-- outputs of the code
abbrev pub output_of : CodeDone → Done
output_of d = record { status = d.status; out = d.out.items; err = d.err.items }

-- a refusal gives its line and its status, and nothing on standard output
abbrev pub refused : Refusal → Done
refused r = record { status = refusal_status r; out = []; err = refusal_line r }

-- the outputs for the result of an order
abbrev pub output_by : OrderOutcome → Done
output_by (Ok a) = record { status = a.status; out = a.out; err = [] }
output_by (Err r) = refused r
