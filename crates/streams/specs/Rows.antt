-- Inputs with their lines, and states after reads and writes, worked out by hand.
use Rattle.std.specs.Prelude.{◌≡◌, [], ◌∷◌, Some, None, Ok, Err, codes}
use Rattle.streams.specs.ErrorCodes.{session_error_code}
use Rattle.streams.specs.Failures.{FailsByResult}
use Rattle.streams.specs.Lines.{input_lines}
use Rattle.streams.specs.Streams.{AddsBytes, one_more, stream}
use Rattle.streams.specs.Writing.{WritesBytes, WritesPart}
use Rattle.streams.specs.declared.session_error.SessionError.TheVariants.{ReadFailed, WriteFailed, Memory}

-- inputs with their lines, and the codes of the errors
pub record LineRowsStand : Type 0 where
  pub no_line : input_lines [] ≡ []
  pub one_line : input_lines (codes "a\n") ≡ codes "a" ∷ []
  pub last_without_feed : input_lines (codes "a\nbc") ≡ codes "a" ∷ codes "bc" ∷ []
  pub empty_line : input_lines (codes "\n") ≡ [] ∷ []
  pub empty_line_within : input_lines (codes "a\n\nb\n") ≡ codes "a" ∷ [] ∷ codes "b" ∷ []
  pub carriage_return_stays : input_lines (codes "a\r\n") ≡ codes "a\r" ∷ []
  pub read_failed : session_error_code ReadFailed ≡ codes "S1"
  pub write_failed : session_error_code WriteFailed ≡ codes "S2"
  pub memory : session_error_code Memory ≡ codes "memory"

-- failures are counted in 64 bits: of reads if a read failed, of writes if a write failed, and otherwise none
pub record FailureRowsStand : Type 0 where
  pub first : one_more 0 ≡ 1
  pub greatest : one_more 0xffffffffffffffff ≡ 0
  pub all_well : FailsByResult 3 3 5 5 (Ok tt)
  pub read : FailsByResult 3 4 5 5 (Err ReadFailed)
  pub write : FailsByResult 3 3 5 6 (Err WriteFailed)
  pub memory : FailsByResult 3 3 5 5 (Err Memory)
  pub uncounted_read : FailsByResult 3 3 5 5 (Err ReadFailed) → ⊥
  pub uncounted_write : FailsByResult 3 3 5 5 (Err WriteFailed) → ⊥
  pub read_for_write : FailsByResult 3 4 5 5 (Err WriteFailed) → ⊥
  pub write_for_read : FailsByResult 3 3 5 6 (Err ReadFailed) → ⊥
  pub read_where_all_is_well : FailsByResult 3 4 5 5 (Ok tt) → ⊥
  pub write_where_all_is_well : FailsByResult 3 3 5 6 (Ok tt) → ⊥
  pub read_for_memory : FailsByResult 3 4 5 5 (Err Memory) → ⊥
  pub write_for_memory : FailsByResult 3 3 5 6 (Err Memory) → ⊥

-- the byte 1 was written before, now 2 and 3 are to be written: both are, or fewer and a write fails
pub record WriteRowsStand : Type 0 where
  pub behind : AddsBytes (Some (1 ∷ [])) (Some (1 ∷ 2 ∷ 3 ∷ [])) (2 ∷ 3 ∷ [])
  pub in_front : AddsBytes (Some (1 ∷ [])) (Some (2 ∷ 3 ∷ 1 ∷ [])) (2 ∷ 3 ∷ []) → ⊥
  pub in_place : AddsBytes (Some (1 ∷ [])) (Some (2 ∷ 3 ∷ [])) (2 ∷ 3 ∷ []) → ⊥
  pub forgotten : AddsBytes (Some (1 ∷ [])) None (2 ∷ 3 ∷ []) → ⊥
  pub unknown : AddsBytes None None (2 ∷ 3 ∷ [])
  pub all : WritesBytes (stream (Some (1 ∷ [])) 0) (stream (Some (1 ∷ 2 ∷ 3 ∷ [])) 0) (2 ∷ 3 ∷ [])
  pub all_and_a_failure : WritesBytes (stream (Some (1 ∷ [])) 0) (stream (Some (1 ∷ 2 ∷ 3 ∷ [])) 1) (2 ∷ 3 ∷ []) → ⊥
  pub only_a_part : WritesBytes (stream (Some (1 ∷ [])) 0) (stream (Some (1 ∷ 2 ∷ [])) 0) (2 ∷ 3 ∷ []) → ⊥
  pub a_part : WritesPart (stream (Some (1 ∷ [])) 0) (stream (Some (1 ∷ 2 ∷ [])) 1) (2 ∷ 3 ∷ [])
  pub nothing : WritesPart (stream (Some (1 ∷ [])) 0) (stream (Some (1 ∷ [])) 1) (2 ∷ 3 ∷ [])
  pub a_part_without_failure : WritesPart (stream (Some (1 ∷ [])) 0) (stream (Some (1 ∷ 2 ∷ [])) 0) (2 ∷ 3 ∷ []) → ⊥
  pub all_as_a_part : WritesPart (stream (Some (1 ∷ [])) 0) (stream (Some (1 ∷ 2 ∷ 3 ∷ [])) 1) (2 ∷ 3 ∷ []) → ⊥
