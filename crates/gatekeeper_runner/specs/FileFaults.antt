-- Files that a start reads: what is wrong with one, and the refusal that names it.
use Rattle.std.specs.Prelude.{◌≡◌, ℕ, List, ◌++◌, codes, Option, Some, None, option_map, Result, Ok, Err, Vec, string_bytes}
use Rattle.std.specs.declared.alloc.Global.{Global}
use Rattle.clap.specs.Words.{Text}
use Rattle.host.specs.ErrorCodes.{failure_text}
use Rattle.host.specs.FileSystem.{FileSystem, IsReading, IsReadFailure}
use Rattle.host.specs.declared.file_read_error.FileReadError.{FileReadError, TheVariants.Failed}
use Rattle.host.specs.declared.file_read_error.FileReadError.TheVariants as read_error
use Rattle.cli.specs.GivenFiles.{IsReadingGiven}
use Rattle.cli.specs.Refusals.{policy_text}
use Rattle.cli.specs.WideTexts.{wide_text}
use Rattle.cli.specs.declared.refusal.Refusal.TheVariants.{Memory}
use Rattle.admission.specs.declared.policy_refusal.PolicyRefusal.{PolicyRefusal}
use Rattle.admission.specs.declared.policy_refusal.PolicyRefusal.TheVariants as policy_refusal
use Rattle.admission.specs.declared.wide_refusal.WideRefusal.{WideRefusal}
use Rattle.admission.specs.declared.wide_refusal.WideRefusal.TheVariants as wide_refusal
use Rattle.gatekeeper_runner.specs.declared.cluster_fault.ClusterFault.TheVariants.{InFile}
use Rattle.gatekeeper_runner.specs.declared.file_fault.FileFault.{FileFault, TheVariants.Unread, TheVariants.Refused, TheVariants.RefusedWide}
use Rattle.gatekeeper_runner.specs.declared.file_fault.FileFault.TheVariants as file_fault
use Rattle.gatekeeper_runner.specs.declared.start_refusal.StartRefusal.{StartRefusal, TheVariants.Plain, TheVariants.Cluster}

-- ---- faults

-- of a file that is not read
abbrev pub fault_of_read : FileReadError → FileFault
fault_of_read (Failed why) = Unread why
fault_of_read read_error.Memory = file_fault.Memory

-- of a file whose policy is refused
abbrev pub fault_of_policy : PolicyRefusal → FileFault
fault_of_policy policy_refusal.Memory = file_fault.Memory
fault_of_policy e = Refused e

-- of a file whose policy is refused in the wide language
abbrev pub fault_of_wide : WideRefusal → FileFault
fault_of_wide wide_refusal.Memory = file_fault.Memory
fault_of_wide e = RefusedWide e

-- the refusal of the file of this name for this fault; or an allocation failed
abbrev pub IsRefusalOf : Text → FileFault → StartRefusal → Type 0
IsRefusalOf name fault (Plain r) = r ≡ Memory
IsRefusalOf name fault (Cluster (InFile told f)) = (string_bytes told ≡ name) × (f ≡ fault)
IsRefusalOf name fault (Cluster _) = ⊥

-- the refusal of the file of this name, which is not read
pub record IsFileUnread (known : Option FileSystem) (name : Text) (r : StartRefusal) : Type 0 where
  pub error : FileReadError
  pub reading : IsReadFailure known name error
  pub told : IsRefusalOf name (fault_of_read error) r

-- the refusal of an optional file, which is not read
abbrev pub IsUnreadGiven : Option FileSystem → Option Text → StartRefusal → Type 0
IsUnreadGiven known None r = ⊥
IsUnreadGiven known (Some name) r = IsFileUnread known name r

-- ---- the line of standard error

-- the name of a file, before what is wrong with it
abbrev pub file_front : Text → List ℕ
file_front name = name ++ codes ": "

-- what is wrong with the file of this name
abbrev pub file_text : Text → FileFault → List ℕ
file_text name (Unread why) = file_front name ++ failure_text why
file_text name (Refused e) = file_front name ++ policy_text e
file_text name (RefusedWide e) = file_front name ++ wide_text e
file_text name file_fault.Memory = codes "memory"

-- ---- the code's

-- the bytes of the file of this name, or its refusal
abbrev pub ReadsFrom : Option FileSystem → Text → Result (Vec ℕ Global) StartRefusal → Type 0
ReadsFrom known name (Ok bytes) = IsReading known name (Ok bytes.items)
ReadsFrom known name (Err r) = IsFileUnread known name r

-- the bytes of an optional file, or its refusal
abbrev pub ReadsGiven : Option FileSystem → Option Text → Result (Option (Vec ℕ Global)) StartRefusal → Type 0
ReadsGiven known name (Ok bytes) = IsReadingGiven known name (Ok (option_map (λ b. b.items) bytes))
ReadsGiven known name (Err r) = IsUnreadGiven known name r
