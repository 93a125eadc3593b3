-- Codes of the errors.
use Rattle.std.specs.Prelude.{ℕ, List, codes}
use Rattle.streams.specs.declared.session_error.SessionError.{SessionError}
use Rattle.streams.specs.declared.session_error.SessionError.TheVariants.{ReadFailed, WriteFailed, Memory}

-- the code of an interrupted session: S1 or S2, or memory
abbrev pub session_error_code : SessionError → List ℕ
session_error_code ReadFailed = codes "S1"
session_error_code WriteFailed = codes "S2"
session_error_code Memory = codes "memory"
