-- The failed reads and writes up to the end of the input.
use Rattle.streams.proofs.Prelude.{◌≡◌, ℕ, arith, Result, IfErr, OnErr, OnOk, one_more, FailsByResult, SessionError, WriteFailed}

-- the failures of the reads, and of the writes at the last line
pub fails_rest : (reads reads_after writes writes_before writes_after : ℕ) (result : Result (Unit {0}) SessionError) → reads_after ≡ reads
    → writes_before ≡ writes → OnOk result (writes_after ≡ writes_before) → OnErr result (writes_after ≡ one_more writes_before)
    → IfErr result (λ e. e ≡ WriteFailed) → FailsByResult reads reads_after writes writes_after result
fails_rest reads reads_after writes writes_before writes_after result read wrote ok err cause = grind arith
