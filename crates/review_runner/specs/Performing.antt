-- The effect of an order other than a session on the files, and its result.
use Rattle.std.specs.Prelude.{◌≡◌, ℕ, Bool, true, false, List, [], Result, Ok, Err, Option}
use Rattle.insn_codec.specs.Statements.{Listing}
use Rattle.loader.specs.Contents.{Image}
use Rattle.host.specs.FileSystem.{FileSystem, FileRead, IsReading, IsWriting, KeepsFiles}
use Rattle.review_runner.specs.Making.{ImageFileFrom, RunsOut}
use Rattle.review_runner.specs.Opening.{OpensFile, opened}
use Rattle.review_runner.specs.Order.{Order, assemble, compile, debug, list, review, run_image}
use Rattle.review_runner.specs.Output.{OrderOutcome, Done, output_by, run_image_outcome, succeeded}
use Rattle.review_runner.specs.PolicyFiles.{ReviewsFiles}
use Rattle.admission.specs.Standing.{Images}
use Rattle.host.specs.declared.file_error.FileError.TheVariants.{Failed}
use Rattle.cli.specs.declared.refusal.Refusal.{Refusal, TheVariants.File, TheVariants.Memory}
use Rattle.review_runner.specs.declared.images.source_kind.SourceKind.{SourceKind, TheVariants.PolicyDocument, TheVariants.ProgramText}

-- ---- single orders

-- `run-image`, for any contents of its file
pub record RunsImage (old : Option FileSystem) (image : List ℕ) (n : ℕ) (new : Option FileSystem) (outcome : OrderOutcome) : Type 0 where
  pub reading : FileRead
  pub is_reading : IsReading old image reading
  pub stays : new ≡ old
  pub outcome_is : outcome ≡ run_image_outcome reading n

-- the listing of an image's code, or why there is no image
pub data ListingOutcome : Result Image Refusal → OrderOutcome → Type 0 where
  unlisted : {r : Refusal} → ListingOutcome (Err r) (Err r)
  listed : {image : Image} {text : List ℕ} → Listing image.code text → ListingOutcome (Ok image) (Ok (succeeded text))

-- `list`, for any contents of its file
pub record ListsImage (old : Option FileSystem) (image : List ℕ) (new : Option FileSystem) (outcome : OrderOutcome) : Type 0 where
  pub reading : FileRead
  pub is_reading : IsReading old image reading
  pub stays : new ≡ old
  pub is_listed : ListingOutcome (opened reading) outcome

-- this file is written; after an earlier refusal the files are unchanged
pub data WritesImage (old : Option FileSystem) (name : List ℕ)
    : Result (List ℕ) Refusal → Option FileSystem → OrderOutcome → Type 0 where
  nothing : {r : Refusal} → WritesImage old name (Err r) old (Err r)
  written : {bytes : List ℕ} {new : Option FileSystem} → IsWriting old name bytes new (Ok tt)
      → WritesImage old name (Ok bytes) new (Ok (succeeded []))
  failed : {bytes : List ℕ} {new : Option FileSystem} → IsWriting old name bytes new (Err Failed)
      → WritesImage old name (Ok bytes) new (Err File)

-- `compile` and `asm`, for any contents of their files
pub record MakesFile (chosen : Images) (kind : SourceKind) (old : Option FileSystem) (source image : List ℕ)
    (new : Option FileSystem) (outcome : OrderOutcome) : Type 0 where
  pub reading : FileRead
  pub is_reading : IsReading old source reading
  pub file : Result (List ℕ) Refusal
  pub made : ImageFileFrom chosen kind reading file
  pub writes : WritesImage old image file new outcome

-- the order that makes one file from another
abbrev pub making : SourceKind → List ℕ → List ℕ → Order
making PolicyDocument source image = compile source image
making ProgramText source image = assemble source image

-- ---- all orders

-- the effect of an order; sessions are not included
abbrev pub Performs : Images → Option FileSystem → Order → Option FileSystem → OrderOutcome → Type 0
Performs chosen old (compile policy image) new outcome = MakesFile chosen PolicyDocument old policy image new outcome
Performs chosen old (review files n) new outcome = ReviewsFiles chosen old files n new outcome
Performs chosen old (run_image image n) new outcome = RunsImage old image n new outcome
Performs chosen old (assemble text image) new outcome = MakesFile chosen ProgramText old text image new outcome
Performs chosen old (list image) new outcome = ListsImage old image new outcome
Performs chosen old (debug image documents) new outcome = ⊥

-- An allocation failed: known files are unchanged, and for some results of the reads nothing was refused before the
-- first allocation.
abbrev pub LacksMemory : Option FileSystem → Order → Option FileSystem → Type 0
LacksMemory old (compile policy image) new = KeepsFiles old new × RunsOut PolicyDocument old policy
LacksMemory old (review files n) new = ⊥
LacksMemory old (run_image image n) new = (new ≡ old) × OpensFile old image (Err Memory)
LacksMemory old (assemble text image) new = KeepsFiles old new × RunsOut ProgramText old text
LacksMemory old (list image) new = (new ≡ old) × OpensFile old image (Err Memory)
LacksMemory old (debug image documents) new = ⊥

-- the result of an order, with or without a failed allocation
pub data PerformsBy (chosen : Images) (old : Option FileSystem) (wanted : Order) (new : Option FileSystem) : OrderOutcome → Type 0 where
  performs : {outcome : OrderOutcome} → Performs chosen old wanted new outcome → PerformsBy chosen old wanted new outcome
  lacks_memory : LacksMemory old wanted new → PerformsBy chosen old wanted new (Err Memory)

-- the outputs of an order that was carried out
pub record IsDone (chosen : Images) (old : Option FileSystem) (wanted : Order) (new : Option FileSystem) (output : Done) : Type 0 where
  pub outcome : OrderOutcome
  pub performs : Performs chosen old wanted new outcome
  pub has_memory : outcome ≡ Err Memory → ⊥
  pub output_is : output ≡ output_by outcome

-- the order writes no file
abbrev pub only_reads : Order → Bool
only_reads (compile policy image) = false
only_reads (review files n) = true
only_reads (run_image image n) = true
only_reads (assemble text image) = false
only_reads (list image) = true
only_reads (debug image documents) = true
