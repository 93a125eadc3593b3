-- Failures of streams, inputs that are read, and texts of documents, by hand.
use Rattle.std.specs.Prelude.{◌≡◌, Some, None, Err, codes}
use Rattle.serde_json.specs.Data as json
use Rattle.streams.specs.Failures.{FailsByResult}
use Rattle.streams.specs.Lines.{readable}
use Rattle.streams.specs.Streams.{one_more}
use Rattle.streams.specs.declared.session_error.SessionError.TheVariants.{ReadFailed, WriteFailed}
use Rattle.review_tables.specs.MemberText.{text_in}

-- a failed read counts no failed write, nor the other way round; failures are counted in 64 bits
pub record StreamRowsHold : Type 0 where
  pub half : one_more 0x7fff_ffff_ffff_ffff ≡ 0x8000_0000_0000_0000
  pub read_and_write_for_read : FailsByResult 3 4 5 6 (Err ReadFailed) → ⊥
  pub read_and_write_for_write : FailsByResult 3 4 5 6 (Err WriteFailed) → ⊥
  -- a short input is read to its end
  pub whole : readable (codes "ab") ≡ codes "ab"

-- the text of a JSON text, and of another value
pub record TextRowsHold : Type 0 where
  pub text : text_in (json.string (codes "a")) ≡ Some (codes "a")
  pub null : text_in json.null ≡ None
