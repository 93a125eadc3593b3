-- Reads and writes of known bytes.
use Rattle.std.specs.Prelude.{◌≡◌, ℕ, ◌+◌, ◌%◌, ◌^◌, ◌<◌, ◌≤◌, List, [], ◌++◌, length, take, drop, Option, Some}

-- a reader or a writer: the bytes that are left or that were taken, if they are
-- known, and the number of its failed calls
pub record Stream : Type 0 where
  pub bytes : Option (List ℕ)
  pub failed : ℕ

-- a reader or a writer with these bytes and this number of failed calls
abbrev pub stream : Option (List ℕ) → ℕ → Stream
stream bytes failed = record { bytes = bytes; failed = failed }

-- one more failure, counted in 64 bits
abbrev pub one_more : ℕ → ℕ
one_more failures = (failures + 1) % 2 ^ 64

-- a read copies the first n bytes that are left to the front of the buffer; n is 0 only
-- if none are left or the buffer is empty
pub record GivesBytes (left : List ℕ) (after : Option (List ℕ)) (room n : ℕ) (buffer : List ℕ) : Type 0 where
  pub within : n ≤ length left
  pub rest : after ≡ Some (drop n left)
  pub front : take n buffer ≡ take n left
  pub end : n ≡ 0 → 0 < room → left ≡ []

-- known bytes stay unchanged
abbrev pub KeepsBytes : Option (List ℕ) → Option (List ℕ) → Type 0
KeepsBytes old new = (bytes : List ℕ) → old ≡ Some bytes → new ≡ Some bytes

-- these bytes are appended to known ones
abbrev pub AddsBytes : Option (List ℕ) → Option (List ℕ) → List ℕ → Type 0
AddsBytes old new bytes = (before : List ℕ) → old ≡ Some before → new ≡ Some (before ++ bytes)
