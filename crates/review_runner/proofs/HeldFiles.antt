-- Files are read one after the other.
use Rattle.review_runner.proofs.Prelude.{ℕ, List, Option, Some, None, Ok, Err, refl, HoldsFiles, IsReadingGiven, ReadingGiven, held_by, FileSystem, IsReading, FileRead, DocumentFiles}
use Rattle.host.specs.declared.file_error.FileError.TheVariants as file_error

-- the read of an optional file
abbrev pub Read : Option FileSystem → Option (List ℕ) → Type 0
Read known name = (reading : ReadingGiven) × IsReadingGiven known name reading

-- nothing is known of a file that is not read
pub unread : (known : Option FileSystem) (name : Option (List ℕ)) → Read known name
unread known (Some name) = (Err file_error.Memory, λ f is. tt)
unread known None = (Ok None, refl)

-- the contents given by four reads
pub holds : (known : Option FileSystem) (name : List ℕ) (files : DocumentFiles) (s : FileRead) → IsReading known name s
    → (r : Read known files.review) (n : Read known files.namespace) (p : Read known files.params) → HoldsFiles known name files (held_by s r.0 n.0 p.0)
holds known name files s is r n p = record {
  readings = record { subject = s; review = r.0; namespace = n.0; params = p.0; is_subject = is; is_review = r.1; is_namespace = n.1; is_params = p.1 };
  are = refl;
}
