-- The result of running an image.
use Rattle.std.specs.Prelude.{◌≡◌, ℕ, List, ◌++◌, Result, Ok, Err, IsOk, Vec}
use Rattle.std.specs.declared.alloc.Global.{Global}
use Rattle.loader.specs.Contents.{Image}
use Rattle.loader.specs.Format.{image_in}
use Rattle.loader.specs.declared.load_error.LoadError.{LoadError}
use Rattle.loader.specs.declared.load_error.LoadError.TheVariants.{TooShort, UnknownMagic, BadSlotCount, ConstantsTooLong, BadLength, Memory}
use Rattle.bpf_machine.specs.State.{State, null_values, start_state}
use Rattle.bpf_machine.specs.Text.{move_text, registers_text}
use Rattle.bpf_machine.specs.Trace.{state_after, stop_place}
use Rattle.bpf_machine.specs.declared.status.Status.{Status}

-- the output of a run, and its status
pub record RunShown : Type 0 where
  pub text : List ℕ
  pub status : Status

-- the state after this number of steps, printed as the debugger prints `r` and a move to this step
abbrev pub run_shown : ℕ → State → RunShown
run_shown steps s = record { text = registers_text s ++ move_text steps s; status = s.status }

-- the same for the end of a run of at most n steps
unfoldable pub shown_after : ℕ → State → RunShown
shown_after n s = run_shown (stop_place n s) (state_after (stop_place n s) s)

-- the output of a run of at most n steps of an image, on five null roots, or why the file holds no image
abbrev pub run_of : Result Image LoadError → ℕ → Result RunShown LoadError
run_of (Ok image) n = Ok (shown_after n (start_state image null_values))
run_of (Err e) n = Err e

-- the same for the bytes of a file
unfoldable pub run_of_file : List ℕ → ℕ → Result RunShown LoadError
run_of_file file n = run_of (image_in file) n

-- the result is the one that is due; or an allocation failed, if the file holds an image
abbrev pub RunImageReturns : Result RunShown LoadError → Result (Vec ℕ Global × Status) LoadError → Type 0
RunImageReturns due (Ok r) = due ≡ Ok (record { text = r.0.items; status = r.1 })
RunImageReturns due (Err TooShort) = due ≡ Err TooShort
RunImageReturns due (Err UnknownMagic) = due ≡ Err UnknownMagic
RunImageReturns due (Err BadSlotCount) = due ≡ Err BadSlotCount
RunImageReturns due (Err ConstantsTooLong) = due ≡ Err ConstantsTooLong
RunImageReturns due (Err BadLength) = due ≡ Err BadLength
RunImageReturns due (Err Memory) = IsOk due
