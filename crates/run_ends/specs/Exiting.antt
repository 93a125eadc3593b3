-- How a run within limits of steps and reads ended.
use Rattle.std.specs.Prelude.{◌≡◌, ℕ, Bool, true, false, Result, Ok, Err}
use Rattle.guest_memory.specs.declared.fault.Fault as guest
use Rattle.bpf_machine.specs.declared.status.Status.{Status, TheVariants.Exited, TheVariants.Fault, TheVariants.Running}
use Rattle.run_ends.specs.declared.no_exit.NoExit.{NoExit, TheVariants.Stopped, TheVariants.OutOfReads, TheVariants.OutOfSteps}

-- the machine has exited, or its status says why not; it may still run with a step left only if the limit of reads held
-- it
abbrev pub HasExited : Status → Bool → Result (Unit {0}) NoExit → Type 0
HasExited s held (Ok u) = (w : ℕ) × (s ≡ Exited w)
HasExited s held (Err OutOfSteps) = (s ≡ Running) × (held ≡ false)
HasExited s held (Err OutOfReads) = (s ≡ Running) × (held ≡ true)
HasExited s held (Err Stopped) = (f : guest.Fault) × (s ≡ Fault f)
