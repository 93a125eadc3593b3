-- An input read line by line: the part that was read, and what holds of the bytes that were heard and written.
use Rattle.std.specs.Prelude.{◌≡◌, ◌≢◌, ℕ, ◌<◌, ◌≤◌, ◌⊎◌, Bool, true, false, List, ◌++◌, length, take, drop, slice_index}
use Rattle.std.specs.Prelude.{Option, Some, Result, Ok, Err}
use Rattle.streams.specs.Lines.{readable}
use Rattle.streams.specs.declared.session_error.SessionError.{SessionError, TheVariants.ReadFailed, TheVariants.WriteFailed, TheVariants.Memory}

-- a property of the bytes that were heard and of those that were written
abbrev pub OfBytes : Type 1
OfBytes = List ℕ → Option (List ℕ) → Type 0

-- no byte of these is a line feed
abbrev pub HasNoFeed : List ℕ → Type 0
HasNoFeed bytes = (k : ℕ) → k < length bytes → slice_index bytes k ≢ 10

-- some bytes of the input were read, and this holds of them
pub record ReadsSome (holds : OfBytes) (input : List ℕ) (left written : Option (List ℕ)) : Type 0 where
  pub read : ℕ
  pub within : read ≤ length (readable input)
  pub left_is : left ≡ Some (drop read input)
  pub of_bytes : holds (take read input) written

-- all readable bytes of the input were read, and this holds of them
pub record ReadsToEnd (holds : OfBytes) (input : List ℕ) (left written : Option (List ℕ)) : Type 0 where
  pub left_is : left ≡ Some (drop (length (readable input)) input)
  pub of_bytes : holds (readable input) written

-- how hearing ended, by its result: at a line or at the input's end, or because a read or a write failed
abbrev pub HeardByResult : OfBytes → (Bool → OfBytes) → (Bool → OfBytes) → List ℕ → Option (List ℕ) → Option (List ℕ)
    → Result (Unit {0}) SessionError → Type 0
HeardByResult goes ended broke input left written (Ok u) =
    ReadsSome (ended false) input left written ⊎ ReadsToEnd (ended true) input left written
HeardByResult goes ended broke input left written (Err ReadFailed) = ReadsSome goes input left written
HeardByResult goes ended broke input left written (Err WriteFailed) =
    ReadsSome (broke false) input left written ⊎ ReadsToEnd (broke true) input left written
HeardByResult goes ended broke input left written (Err Memory) = ⊥

-- ---- parts

-- the first `read` bytes of the input were read, and this holds of them
pub record HeardSoFar (holds : OfBytes) (input : List ℕ) (read : ℕ) (left written : Option (List ℕ)) : Type 0 where
  pub left_is : left ≡ Some (drop read input)
  pub within : read ≤ length input
  pub of_bytes : holds (take read input) written

-- the state of a listener after it hears these bytes, for any state at the start, any bytes that
-- were written before, and any that it has heard
abbrev pub Hears : {A : Type 0} → (A → List ℕ → OfBytes) → (A → List ℕ → OfBytes) → List ℕ → Option (List ℕ) → Option (List ℕ) → Type 0
Hears {A} holds next bytes old new =
    (start : A) (before heard : List ℕ) → holds start before heard old → next start before (heard ++ bytes) new

-- the state of a listener after it hears that the input has ended
abbrev pub HearsEnd : {A : Type 0} → (A → List ℕ → OfBytes) → (A → List ℕ → OfBytes) → Option (List ℕ) → Option (List ℕ) → Type 0
HearsEnd {A} holds next old new = (start : A) (before heard : List ℕ) → holds start before heard old → next start before heard new
