-- Writes to a stream.
use Rattle.std.specs.Prelude.{◌≡◌, ℕ, ◌<◌, List, length, take}
use Rattle.streams.specs.Streams.{AddsBytes, Stream, one_more}

-- these bytes were written
pub record WritesBytes (old new : Stream) (bytes : List ℕ) : Type 0 where
  pub adds : AddsBytes old.bytes new.bytes bytes
  pub failed : new.failed ≡ old.failed

-- a prefix of these bytes was written, and then a write failed
pub record WritesPart (old new : Stream) (bytes : List ℕ) : Type 0 where
  pub many : ℕ
  pub is_cut : many < length bytes
  pub adds : AddsBytes old.bytes new.bytes (take many bytes)
  pub failed : new.failed ≡ one_more old.failed
