-- Reads and writes of a few files, worked out by hand: possible results and files afterwards, and impossible ones.
use Rattle.std.specs.Prelude.{◌≡◌, ℕ, Bool, List, [], ◌∷◌, Option, Some, None, Ok, Err, codes, if◌then◌else◌}
use Rattle.std.specs.Str.{bytes_eq}
use Rattle.std.specs.declared.io.ErrorKind.TheVariants as kind
use Rattle.host.specs.ErrorCodes.{failure_of, failure_text, file_error_code, order_error_code}
use Rattle.host.specs.FileSystem.{FileSystem, IsReading, IsSame, IsReadFailure, IsWriting, KeepsFiles, ReadsFile, AnswersWrite, with_file}
use Rattle.host.specs.declared.file_error.FileError.TheVariants.{Failed, Memory}
use Rattle.host.specs.declared.file_failure.FileFailure.{FileFailure}
use Rattle.host.specs.declared.file_failure.FileFailure.TheVariants.{NotFound, PermissionDenied, IsADirectory, Other}
use Rattle.host.specs.declared.file_read_error.FileReadError.TheVariants as read_error
use Rattle.host.specs.declared.order_error.OrderError.TheVariants as order_error

-- the name of a file
abbrev pub first : List ℕ
first = 1 ∷ []

-- the name of another file
abbrev pub second : List ℕ
second = 2 ∷ []

-- a name without a file
abbrev pub third : List ℕ
third = 3 ∷ []

-- the bytes of the first and the second file; the third cannot be read
abbrev pub held : List ℕ → Option (List ℕ)
held name = if bytes_eq name first then Some (7 ∷ 8 ∷ []) else (if bytes_eq name second then Some [] else None)

-- only the second file is writable
abbrev pub taken : List ℕ → Bool
taken name = bytes_eq name second

-- why a file is not read: the third is a directory
abbrev pub reason : List ℕ → FileFailure
reason name = if bytes_eq name third then IsADirectory else NotFound

-- the two files
abbrev pub files : FileSystem
files = record { holds = held; takes = taken; unread = reason }

-- the files after the byte 9 was written to the second
abbrev pub written : FileSystem
written = record { holds = with_file files second (9 ∷ []); takes = taken; unread = reason }

-- possible and impossible results of reads, and the codes of the errors
pub record FileRowsStand : Type 0 where
  -- reads
  pub read : ReadsFile (files.holds first) (Ok (7 ∷ 8 ∷ []))
  pub read_empty : ReadsFile (files.holds second) (Ok [])
  pub read_none : ReadsFile (files.holds third) (Err Failed)
  pub read_without_memory : ReadsFile (files.holds first) (Err Memory)
  pub read_other : ReadsFile (files.holds first) (Ok []) → ⊥
  pub read_what_is_not : ReadsFile (files.holds third) (Ok []) → ⊥
  pub read_fails_on_a_file : ReadsFile (files.holds second) (Err Failed) → ⊥
  pub known_read : IsReading (Some files) first (Ok (7 ∷ 8 ∷ []))
  pub known_read_of_another : IsReading (Some files) first (Ok []) → ⊥
  pub unknown_read : IsReading None first (Ok [])
  -- reasons
  pub unread : IsReadFailure (Some files) third (read_error.Failed IsADirectory)
  pub unread_for_another_reason : IsReadFailure (Some files) third (read_error.Failed NotFound) → ⊥
  pub unread_though_held : IsReadFailure (Some files) first (read_error.Failed NotFound) → ⊥
  pub unread_without_memory : IsReadFailure (Some files) first read_error.Memory
  pub unread_of_unknown : IsReadFailure None first (read_error.Failed Other)
  -- the bytes of the written file, and of the others
  pub new_bytes : written.holds second ≡ Some (9 ∷ [])
  pub old_bytes : written.holds first ≡ Some (7 ∷ 8 ∷ [])
  pub still_none : written.holds third ≡ None
  -- the codes of the errors
  pub failed : file_error_code Failed ≡ codes "file"
  pub memory : file_error_code Memory ≡ codes "memory"
  pub words : order_error_code order_error.InvalidArguments ≡ codes "U1"
  pub words_memory : order_error_code order_error.Memory ≡ codes "memory"
  -- the failures of the system's errors, and their texts
  pub no_file : failure_of kind.NotFound ≡ NotFound
  pub no_permission : failure_of kind.PermissionDenied ≡ PermissionDenied
  pub directory : failure_of kind.IsADirectory ≡ IsADirectory
  pub no_directory : failure_of kind.NotADirectory ≡ Other
  pub uncategorized : failure_of kind.Uncategorized ≡ Other
  pub no_file_text : failure_text NotFound ≡ codes "not found"
  pub no_permission_text : failure_text PermissionDenied ≡ codes "permission denied"
  pub directory_text : failure_text IsADirectory ≡ codes "is a directory"
  pub other_text : failure_text Other ≡ codes "cannot be read"

-- possible and impossible results of writes
pub record FileWriteRowsStand : Type 0 where
  pub write : AnswersWrite files written second (9 ∷ []) (Ok tt)
  pub write_is_lost : AnswersWrite files files second (9 ∷ []) (Ok tt) → ⊥
  pub write_to_another : AnswersWrite files written first (9 ∷ []) (Ok tt) → ⊥
  pub write_of_others : AnswersWrite files written second (8 ∷ []) (Ok tt) → ⊥
  pub write_fails : AnswersWrite files files first (9 ∷ []) (Err Failed)
  pub write_fails_and_changes : AnswersWrite files written first (9 ∷ []) (Err Failed) → ⊥
  pub write_fails_where_it_is_taken : AnswersWrite files files second (9 ∷ []) (Err Failed) → ⊥
  pub write_without_memory : AnswersWrite files files second (9 ∷ []) (Err Memory)
  pub write_without_memory_changes : AnswersWrite files written second (9 ∷ []) (Err Memory) → ⊥
  pub known_write : IsWriting (Some files) second (9 ∷ []) (Some written) (Ok tt)
  pub known_write_is_lost : IsWriting (Some files) second (9 ∷ []) (Some files) (Ok tt) → ⊥
  pub known_write_forgets : IsWriting (Some files) second (9 ∷ []) None (Ok tt) → ⊥
  pub unknown_write : IsWriting None second (9 ∷ []) None (Ok tt)
  pub same : IsSame files files
  pub other_bytes : IsSame files written → ⊥
  pub kept : KeepsFiles (Some files) (Some files)
  pub kept_otherwise : KeepsFiles (Some files) (Some written) → ⊥
  pub forgotten : KeepsFiles (Some files) None → ⊥
  pub never_known : KeepsFiles None None
