-- A model of files by name.
use Rattle.std.specs.Prelude.{◌≡◌, ℕ, Bool, true, false, List, Option, Some, None, Result, Ok, Err, Vec, if◌then◌else◌}
use Rattle.std.specs.Str.{bytes_eq}
use Rattle.std.specs.declared.alloc.Global.{Global}
use Rattle.host.specs.declared.file_error.FileError.{FileError, TheVariants.Failed, TheVariants.Memory}
use Rattle.host.specs.declared.file_failure.FileFailure.{FileFailure}
use Rattle.host.specs.declared.file_read_error.FileReadError.{FileReadError}
use Rattle.host.specs.declared.file_read_error.FileReadError.TheVariants as read_error

-- the bytes of each readable file, which files are writable, and why a file without bytes is not read
pub record FileSystem : Type 0 where
  pub holds : List ℕ → Option (List ℕ)
  pub takes : List ℕ → Bool
  pub unread : List ℕ → FileFailure

-- ---- reads

-- the result of a read: a file's bytes, or an error
abbrev pub FileRead : Type 0
FileRead = Result (List ℕ) FileError

-- the result of a read by the code
abbrev pub reading_of : Result (Vec ℕ Global) FileError → FileRead
reading_of (Ok bytes) = Ok bytes.items
reading_of (Err e) = Err e

-- the read returns the bytes of the file; it fails exactly if there are none
abbrev pub ReadsFile : Option (List ℕ) → FileRead → Type 0
ReadsFile held (Ok bytes) = held ≡ Some bytes
ReadsFile held (Err Failed) = held ≡ None
ReadsFile held (Err Memory) = Unit {0}

-- this is a possible result of a read of this name, by the files' contents if they are known
abbrev pub IsReading : Option FileSystem → List ℕ → FileRead → Type 0
IsReading known name reading = (f : FileSystem) → known ≡ Some f → ReadsFile (f.holds name) reading

-- the error is a possible one of a read of this name: there are no bytes, and this is the reason
abbrev pub IsReadFailure : Option FileSystem → List ℕ → FileReadError → Type 0
IsReadFailure known name (read_error.Failed why) = (f : FileSystem) → known ≡ Some f → (f.holds name ≡ None) × (why ≡ f.unread name)
IsReadFailure known name read_error.Memory = Unit {0}

-- the bytes of the file with this name by the code, or why it is not read
abbrev pub ReadsOrFails : Option FileSystem → List ℕ → Result (Vec ℕ Global) FileReadError → Type 0
ReadsOrFails known name (Ok bytes) = IsReading known name (Ok bytes.items)
ReadsOrFails known name (Err e) = IsReadFailure known name e

-- ---- writes

-- all names keep their files, except one that now has these bytes
abbrev pub with_file : FileSystem → List ℕ → List ℕ → List ℕ → Option (List ℕ)
with_file files name bytes other = if bytes_eq other name then Some bytes else files.holds other

-- a write that succeeds changes only its own file; it fails exactly if the name is not
-- writable, and then all files are unchanged
pub record WritesFile (old new : FileSystem) (name bytes : List ℕ) (succeeds : Bool) : Type 0 where
  pub taken : old.takes name ≡ succeeds
  pub takes : new.takes ≡ old.takes
  pub unread : new.unread ≡ old.unread
  pub holds : (other : List ℕ) → new.holds other ≡ (if succeeds then with_file old name bytes other else old.holds other)

-- the possible results of a write of these bytes to this name, and the files after it;
-- after a failed allocation they are unchanged
abbrev pub AnswersWrite : FileSystem → FileSystem → List ℕ → List ℕ → Result (Unit {0}) FileError → Type 0
AnswersWrite old new name bytes (Ok u) = WritesFile old new name bytes true
AnswersWrite old new name bytes (Err Failed) = WritesFile old new name bytes false
AnswersWrite old new name bytes (Err Memory) = new ≡ old

-- this is a possible result of a write of these bytes; known files stay known, and change by the result
abbrev pub IsWriting : Option FileSystem → List ℕ → List ℕ → Option FileSystem → Result (Unit {0}) FileError → Type 0
IsWriting known name bytes after result =
    (f : FileSystem) → known ≡ Some f → (g : FileSystem) × (after ≡ Some g) × AnswersWrite f g name bytes result

-- all files have the same bytes, the same names are writable, and the others are not read for the same reasons
pub record IsSame (old new : FileSystem) : Type 0 where
  pub holds : (name : List ℕ) → new.holds name ≡ old.holds name
  pub takes : new.takes ≡ old.takes
  pub unread : new.unread ≡ old.unread

-- known files stay known and unchanged
abbrev pub KeepsFiles : Option FileSystem → Option FileSystem → Type 0
KeepsFiles known after = (f : FileSystem) → known ≡ Some f → (g : FileSystem) × (after ≡ Some g) × IsSame f g
