-- The number of reads and writes that fail in a session.
use Rattle.std.specs.Prelude.{◌≡◌, ℕ, Result, Ok, Err}
use Rattle.streams.specs.Streams.{one_more}
use Rattle.streams.specs.declared.session_error.SessionError.{SessionError, TheVariants.ReadFailed, TheVariants.WriteFailed, TheVariants.Memory}

-- the number of failed reads and writes, by the session's result
abbrev pub FailsByResult : ℕ → ℕ → ℕ → ℕ → Result (Unit {0}) SessionError → Type 0
FailsByResult reads reads_after writes writes_after (Ok u) = (reads_after ≡ reads) × (writes_after ≡ writes)
FailsByResult reads reads_after writes writes_after (Err ReadFailed) = (reads_after ≡ one_more reads) × (writes_after ≡ writes)
FailsByResult reads reads_after writes writes_after (Err WriteFailed) = (reads_after ≡ reads) × (writes_after ≡ one_more writes)
FailsByResult reads reads_after writes writes_after (Err Memory) = (reads_after ≡ reads) × (writes_after ≡ writes)
