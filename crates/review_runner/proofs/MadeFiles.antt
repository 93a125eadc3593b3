-- Files that are made from files.
use Rattle.review_runner.proofs.Prelude.{◌≡◌, ◌∙◌, ℕ, List, [], Result, Ok, Err, Option, Vec, refl, sym, subst, inl, inr, arith, IsErrAnd, Global, OneImage, FileSystem, IsReading, IsWriting, KeepsFiles, FileRead, MadeBy, ImageFileFrom, MadeOf, MayRunOut, RunsOut, no_file, OrderOutcome, Report, outcome_of, succeeded, MakesFile, PerformsBy, failed, lacks_memory, making, nothing, performs, written, CompiledFrom, file_refusal, FileError, Failed, Refusal, Memory, SourceKind, PolicyDocument, ProgramText}
use Rattle.review_runner.specs.PolicyFiles.{no_file as no_policy}
use Rattle.review_runner.specs.declared.report.Report.{Report as CodeReport}
use Rattle.host.specs.declared.file_error.FileError.TheVariants as file_error
use Rattle.review_runner.proofs.Assembled.{may_run_out as text_may}

-- ---- the image's file

-- the file was not read
pub of_failure : (kind : SourceKind) (e : FileError) → MadeBy OneImage kind (Err e) (Err (file_refusal e))
of_failure PolicyDocument e = inl no_policy
of_failure ProgramText e = inl no_file

policy_may : (reading : FileRead) (due : Result (List ℕ) Refusal) (file : List ℕ) → CompiledFrom OneImage reading due → due ≡ Ok file → reading ≡ Err Failed → ⊥
policy_may reading due file made is fails = grind arith

-- an allocation may fail once the image's file is made
may_run_out : (kind : SourceKind) (reading : FileRead) (file : List ℕ) → ImageFileFrom OneImage kind reading (Ok file) → MayRunOut kind reading
may_run_out kind reading file made = grind (arith, policy_may, text_may)

-- ---- the files

-- unchanged files are kept
pub same_files : (old new : Option FileSystem) → new ≡ old → KeepsFiles old new
same_files old new stays f known = (f, stays ∙ known, record { holds = λ name. refl; takes = refl; unread = refl })

was_kept : (old new : Option FileSystem) (name bytes : List ℕ) → IsWriting old name bytes new (Err file_error.Memory) → KeepsFiles old new
was_kept old new name bytes write = grind arith

-- ---- the order

performed : (kind : SourceKind) (old new : Option FileSystem) (source target : List ℕ) (outcome : OrderOutcome) → MakesFile OneImage kind old source target new outcome
    → PerformsBy OneImage old (making kind source target) new outcome
performed PolicyDocument old new source target outcome makes = performs makes
performed ProgramText old new source target outcome makes = performs makes

ran_out : (kind : SourceKind) (old new : Option FileSystem) (source target : List ℕ) → KeepsFiles old new → RunsOut kind old source
    → PerformsBy OneImage old (making kind source target) new (Err Memory)
ran_out PolicyDocument old new source target kept runs = lacks_memory (kept, runs)
ran_out ProgramText old new source target kept runs = lacks_memory (kept, runs)

-- there is no image to write
pub not_made : (kind : SourceKind) (old new : Option FileSystem) (source target : List ℕ) (r : Refusal) (reading : FileRead) → IsReading old source reading
    → MadeBy OneImage kind reading (Err r) → new ≡ old → PerformsBy OneImage old (making kind source target) new (Err r)
not_made kind old new source target r reading read (inl made) stays =
    performed kind old new source target (Err r) (record { reading = reading; is_reading = read; file = Err r; made = made; writes = rw stays nothing })
not_made kind old new source target r reading read (inr lacks) stays =
    rw lacks.0 (ran_out kind old new source target (same_files old new stays) (record { reading = reading; is_reading = read; may = lacks.1 }))

of_not_written : (kind : SourceKind) (old new : Option FileSystem) (source target : List ℕ) (file : Vec ℕ Global) (e : FileError) → MadeOf OneImage kind old source (Ok file)
    → IsWriting old target file.items new (Err e) → PerformsBy OneImage old (making kind source target) new (Err (file_refusal e))
of_not_written kind old new source target file Failed m write =
    performed kind old new source target _ (record { reading = m.reading; is_reading = m.is_reading; file = Ok file.items; made = m.made; writes = failed write })
of_not_written kind old new source target file file_error.Memory m write =
    ran_out kind old new source target (was_kept old new target file.items write)
    (record { reading = m.reading; is_reading = m.is_reading; may = may_run_out kind m.reading file.items m.made })

-- the image was not written
pub not_written : (kind : SourceKind) (old mid new : Option FileSystem) (source target given : List ℕ) (file : Vec ℕ Global) (e : FileError) (result : Result CodeReport Refusal)
    → IsErrAnd result (λ q. q ≡ file_refusal e) → MadeOf OneImage kind old source (Ok file) → mid ≡ old → given ≡ file.items
    → IsWriting mid target given new (Err e) → PerformsBy OneImage old (making kind source target) new (outcome_of result)
not_written kind old mid new source target given file e (Ok a) is made stays same write = absurd is
not_written kind old mid new source target given file e (Err r) is made stays same write =
    let write = subst (λ (b : List ℕ). IsWriting old target b new (Err e)) same (subst (λ (k : Option FileSystem). IsWriting k target given new (Err e)) stays write) in
    subst (λ (q : Refusal). PerformsBy OneImage old (making kind source target) new (Err q)) (sym is) (of_not_written kind old new source target file e made write)

-- the image was written
pub was_written : (kind : SourceKind) (old new : Option FileSystem) (source target : List ℕ) (file : Vec ℕ Global) (report : Report) → MadeOf OneImage kind old source (Ok file)
    → IsWriting old target file.items new (Ok tt) → report ≡ succeeded [] → PerformsBy OneImage old (making kind source target) new (Ok report)
was_written kind old new source target file report m write done =
    subst (λ (q : Report). PerformsBy OneImage old (making kind source target) new (Ok q)) (sym done)
    (performed kind old new source target _ (record { reading = m.reading; is_reading = m.is_reading; file = Ok file.items; made = m.made; writes = written write }))
