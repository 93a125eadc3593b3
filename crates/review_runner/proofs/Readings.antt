-- Results of reads.
use Rattle.review_runner.proofs.Prelude.{◌≡◌, ℕ, List, Option, Result, Ok, Err, sym, subst, arith, LoadError, OneImage, FileSystem, IsReading, FileRead, IsDueResult, IsUnrefused, OpensFile, opened, opened_by, list, run_image, OrderOutcome, Report, run_image_outcome, run_outcome, succeeded, Listing, ListingOutcome, PerformsBy, lacks_memory, listed, performs, unlisted, file_refusal, run_of, run_of_file, FileError, Refusal, Memory}
use Rattle.loader.specs.Contents.{Image}
use Rattle.admission.proofs.Results.{not_both}

-- ---- results

-- a failed read is reported
pub read_failed : (A : Type 0) (e : FileError) → IsDueResult {A = A} (Err (file_refusal e)) (Err (file_refusal e))
read_failed A e = grind arith

-- ---- runs

-- an image was opened, and then an allocation failed
pub opened_unrefused : (known : Option FileSystem) (name : List ℕ) (image : Image) → OpensFile known name (Ok image) → OpensFile known name (Err Memory)
opened_unrefused known name image o = record { reading = o.reading; is_reading = o.is_reading; opens = λ r due. absurd (not_both _ image r o.opens due) }

by_image : (d : Result Image LoadError) (n : ℕ) → IsUnrefused (run_outcome (run_of d n)) → IsUnrefused (opened_by d)
by_image d n none = grind arith

run_unrefused : (reading : FileRead) (n : ℕ) → IsUnrefused (run_image_outcome reading n) → IsUnrefused (opened reading)
unfolding run_of_file
run_unrefused reading n none = grind (arith, by_image)

pub ran : (old new : Option FileSystem) (image : List ℕ) (n : ℕ) (reading : FileRead) (outcome : OrderOutcome) → IsReading old image reading → new ≡ old
    → IsDueResult (run_image_outcome reading n) outcome → PerformsBy OneImage old (run_image image n) new outcome
ran old new image n reading (Err Memory) read stays none = lacks_memory (stays, record { reading = reading; is_reading = read; opens = run_unrefused reading n none })
ran old new image n reading outcome read stays due = performs (record { reading = reading; is_reading = read; stays = stays; outcome_is = sym due })

-- ---- listings

-- there is no image to list
pub not_listed : (old new : Option FileSystem) (image : List ℕ) (r : Refusal) → OpensFile old image (Err r) → new ≡ old → PerformsBy OneImage old (list image) new (Err r)
not_listed old new image Memory o stays = lacks_memory (stays, o)
not_listed old new image r o stays = performs (record { reading = o.reading; is_reading = o.is_reading; stays = stays; is_listed = rw o.opens unlisted })

-- the image was listed
pub was_listed : (old new : Option FileSystem) (image : List ℕ) (contents : Image) (outcome : OrderOutcome) → OpensFile old image (Ok contents) → new ≡ old
    → ListingOutcome (Ok contents) outcome → PerformsBy OneImage old (list image) new outcome
was_listed old new image contents outcome o stays l = performs (record { reading = o.reading; is_reading = o.is_reading; stays = stays; is_listed = rw o.opens l })

-- the listing of an image's code
pub listing_was : (image : Image) (text : List ℕ) (report : Report) → Listing image.code text → report ≡ succeeded text → ListingOutcome (Ok image) (Ok report)
listing_was image text report listing done = subst (λ (q : Report). ListingOutcome (Ok image) (Ok q)) (sym done) (listed listing)
