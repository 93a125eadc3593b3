-- Files that are read and written for a command, by the words that name them.
use Rattle.review_runner.proofs.Prelude.{◌≡◌, ℕ, ◌+◌, ◌∷◌, ◌++◌, true, false, List, [], Option, Result, Ok, Err, Some}
use Rattle.review_runner.proofs.Prelude.{None, refl, subst, if◌then◌else◌, Text, held_by, HoldsFiles, IsReadingGiven}
use Rattle.review_runner.proofs.Prelude.{ReadingGiven, FileSystem, IsReading, FileRead, DocumentFiles, FileError}
use Rattle.review_runner.proofs.Prelude.{Failed}
use Rattle.std.specs.Str.{bytes_eq}
use Rattle.host.specs.declared.file_error.FileError.TheVariants as file_error
use Rattle.host.specs.FileSystem.{IsWriting, KeepsFiles}
use Rattle.review_runner.specs.Debugging.{SessionFiles}
use Rattle.review_runner.specs.Effect.{Hold, Leaves}

-- ---- files

-- a file among these names cannot be read, and those before it hold some bytes
pub record Unread (known : Option FileSystem) (names : List (Option Text)) : Type 0 where
  pub before : List (Option Text)
  pub name : Text
  pub after : List (Option Text)
  pub held : List (Option (List ℕ))
  pub are : names ≡ before ++ Some name ∷ after
  pub hold : Hold known before held
  pub fails : IsReading known name (Err Failed)

-- one of the reads ended so
abbrev pub Fails : Option FileSystem → List (Option Text) → FileError → Type 0
Fails known names file_error.Memory = Unit {0}
Fails known names Failed = Unread known names

pub fails_at : (known : Option FileSystem) (before after : List (Option Text)) (held : List (Option (List ℕ))) (name : Option Text) (e : FileError) → Hold known before held
    → IsReadingGiven known name (Err e) → Fails known (before ++ name ∷ after) e
fails_at known before after held name file_error.Memory hold is = tt
fails_at known before after held (Some name) Failed hold is = record { before = before; name = name; after = after; held = held; are = refl; hold = hold; fails = is }
fails_at known before after held None Failed hold is = cc

pub hold_next : (known : Option FileSystem) (name : Option Text) (bytes : Option (List ℕ)) (names : List (Option Text)) (held : List (Option (List ℕ)))
    → IsReadingGiven known name (Ok bytes) → Hold known names held → Hold known (name ∷ names) (bytes ∷ held)
hold_next known (Some name) (Some bytes) names held is rest = (is, rest)
hold_next known (Some name) None names held is rest = absurd is
hold_next known None (Some bytes) names held is rest = cc
hold_next known None None names held is rest = rest

-- the files of a session or a review
abbrev pub names_of : List ℕ → DocumentFiles → List (Option Text)
names_of name files = Some name ∷ files.review ∷ files.namespace ∷ files.params ∷ []

abbrev pub FilesBy : Option FileSystem → List ℕ → DocumentFiles → Result SessionFiles FileError → Type 0
FilesBy known name files (Ok h) = Hold known (names_of name files) (Some h.subject ∷ h.review ∷ h.namespace ∷ h.params ∷ [])
FilesBy known name files (Err e) = Fails known (names_of name files) e

pub by_reads : (known : Option FileSystem) (name : List ℕ) (files : DocumentFiles) (s : FileRead) (r n p : ReadingGiven) → IsReading known name s → IsReadingGiven known files.review r
    → IsReadingGiven known files.namespace n → IsReadingGiven known files.params p → FilesBy known name files (held_by s r n p)
by_reads known name files (Ok s) (Ok r) (Ok n) (Ok p) is_s is_r is_n is_p = (
  is_s,
  hold_next known files.review r _ _ is_r (hold_next known files.namespace n _ _ is_n (hold_next known files.params p [] [] is_p tt)),
)
by_reads known name files (Ok s) (Ok r) (Ok n) (Err e) is_s is_r is_n is_p =
    fails_at known (Some name ∷ files.review ∷ files.namespace ∷ []) [] (Some s ∷ r ∷ n ∷ []) files.params e
    (is_s, hold_next known files.review r _ _ is_r (hold_next known files.namespace n [] [] is_n tt)) is_p
by_reads known name files (Ok s) (Ok r) (Err e) p is_s is_r is_n is_p =
    fails_at known (Some name ∷ files.review ∷ []) (files.params ∷ []) (Some s ∷ r ∷ []) files.namespace e
    (is_s, hold_next known files.review r [] [] is_r tt) is_n
by_reads known name files (Ok s) (Err e) n p is_s is_r is_n is_p =
    fails_at known (Some name ∷ []) (files.namespace ∷ files.params ∷ []) (Some s ∷ []) files.review e (is_s, tt) is_r
by_reads known name files (Err e) r n p is_s is_r is_n is_p =
    fails_at known [] (files.review ∷ files.namespace ∷ files.params ∷ []) [] (Some name) e tt is_s

pub by_files : (known : Option FileSystem) (name : List ℕ) (files : DocumentFiles) (held : Result SessionFiles FileError) → HoldsFiles known name files held
    → FilesBy known name files held
by_files known name files held h =
    subst (FilesBy known name files) h.are
    (by_reads known name files _ _ _ _ h.readings.is_subject h.readings.is_review h.readings.is_namespace h.readings.is_params)

pub takes_of : (known after : Option FileSystem) (name bytes : List ℕ) → IsWriting known name bytes after (Ok tt) → (f : FileSystem) → known ≡ Some f → f.takes name ≡ true
takes_of known after name bytes write f is = (write f is).2.taken

pub refuses_of : (known after : Option FileSystem) (name bytes : List ℕ) → IsWriting known name bytes after (Err Failed) → (f : FileSystem) → known ≡ Some f → f.takes name ≡ false
refuses_of known after name bytes write f is = (write f is).2.taken

pub leaves_with : (known after : Option FileSystem) (name bytes : List ℕ) → IsWriting known name bytes after (Ok tt)
    → Leaves known after (λ other held. if bytes_eq other name then Some bytes else held)
leaves_with known after name bytes write f is = let w = write f is in (w.0, w.1, w.2.holds, w.2.takes)

pub leaves_all : (known after : Option FileSystem) (name bytes : List ℕ) → IsWriting known name bytes after (Err Failed) → Leaves known after (λ other held. held)
leaves_all known after name bytes write f is = let w = write f is in (w.0, w.1, w.2.holds, w.2.takes)

pub kept : (known after : Option FileSystem) → KeepsFiles known after → Leaves known after (λ other held. held)
kept known after keeps f is = let k = keeps f is in (k.0, k.1, k.2.holds, k.2.takes)
