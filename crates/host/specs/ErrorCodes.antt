-- Codes of the errors, and the failures of files.
use Rattle.std.specs.Prelude.{ℕ, List, codes}
use Rattle.std.specs.declared.io.ErrorKind.{ErrorKind}
use Rattle.std.specs.declared.io.ErrorKind.TheVariants as kind
use Rattle.host.specs.declared.file_error.FileError.{FileError, TheVariants.Failed}
use Rattle.host.specs.declared.file_error.FileError.TheVariants as file_error
use Rattle.host.specs.declared.file_failure.FileFailure.{FileFailure}
use Rattle.host.specs.declared.file_failure.FileFailure.TheVariants.{NotFound, PermissionDenied, IsADirectory, Other}
use Rattle.host.specs.declared.order_error.OrderError.{OrderError, TheVariants.InvalidArguments}
use Rattle.host.specs.declared.order_error.OrderError.TheVariants as order_error

-- the code of a command line that is refused: U1, or memory
abbrev pub order_error_code : OrderError → List ℕ
order_error_code InvalidArguments = codes "U1"
order_error_code order_error.Memory = codes "memory"

-- the code of a file that cannot be read or written: file, or memory
abbrev pub file_error_code : FileError → List ℕ
file_error_code Failed = codes "file"
file_error_code file_error.Memory = codes "memory"

-- ---- failures

-- the failure of a kind of the system's errors
abbrev pub failure_of : ErrorKind → FileFailure
failure_of kind.NotFound = NotFound
failure_of kind.PermissionDenied = PermissionDenied
failure_of kind.IsADirectory = IsADirectory
failure_of _ = Other

-- what a failure says of the file
abbrev pub failure_text : FileFailure → List ℕ
failure_text NotFound = codes "not found"
failure_text PermissionDenied = codes "permission denied"
failure_text IsADirectory = codes "is a directory"
failure_text Other = codes "cannot be read"
