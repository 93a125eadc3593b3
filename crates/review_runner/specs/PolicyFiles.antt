-- Policies and reviews in files.
use Rattle.std.specs.Prelude.{◌≡◌, ℕ, Bool, true, false, List, [], ◌∷◌, ◌++◌, Option, Some, Result, Ok, Err}
use Rattle.loader.specs.Contents.{Image}
use Rattle.loader.specs.Format.{file_of}
use Rattle.policy_glue.specs.Compiled.{IsCompiled}
use Rattle.policy_glue.specs.Policy.{Policy}
use Rattle.policy_glue.specs.Reading.{policy_in}
use Rattle.review_runner.specs.Debugging.{SessionFiles, HoldsFiles}
use Rattle.admission.specs.Deciding.{Reply, Documents, IsPolicyRefused, Reviews}
use Rattle.host.specs.FileSystem.{FileSystem, FileRead}
use Rattle.review_runner.specs.Order.{DocumentFiles, ReviewFiles}
use Rattle.review_runner.specs.Output.{OrderOutcome, Report}
use Rattle.cli.specs.Refusals.{file_refusal, run_refusal}
use Rattle.admission.specs.Standing.{Images, RunAgrees, steps_alone}
use Rattle.host.specs.declared.file_error.FileError.{FileError}
use Rattle.admission.specs.declared.language.Language.TheVariants.{Profile}
use Rattle.admission.specs.declared.policy_refusal.PolicyRefusal.{PolicyRefusal}
use Rattle.cli.specs.declared.refusal.Refusal.{Refusal, TheVariants.Policy as CodePolicy}
use Rattle.admission.specs.declared.run_error.RunError.{RunError}

-- ---- images

-- the file of a chosen image of a policy, given the result of reading the policy's file
pub data CompiledFrom (chosen : Images) : FileRead → Result (List ℕ) Refusal → Type 0 where
  no_file : {e : FileError} → CompiledFrom chosen (Err e) (Err (file_refusal e))
  no_image : {document : List ℕ} {e : PolicyRefusal} → IsPolicyRefused document e → CompiledFrom chosen (Ok document) (Err (CodePolicy e))
  image : {document : List ℕ} {p : Policy} {image : Image} → policy_in document ≡ Ok p → IsCompiled p image → chosen p image
      → CompiledFrom chosen (Ok document) (Ok (file_of image))

-- ---- reviews

-- the contents of the files of an image or a policy, and of a review's documents
abbrev pub held_with : List ℕ → Documents → SessionFiles
held_with subject d = record { subject = subject; review = Some d.review; namespace = d.namespace; params = d.params }

-- the contents of the files of a policy and a review, or why they are not read
abbrev pub held_of_review : Result Documents FileError → Result SessionFiles FileError
held_of_review (Ok d) = Ok (held_with d.policy d)
held_of_review (Err e) = Err e

-- the names of the files of a review's documents; the first is required
abbrev pub named_files : ReviewFiles → DocumentFiles
named_files files = record { review = Some files.review; namespace = files.namespace; params = files.params }

-- the files with these names hold these documents, or a read failed
abbrev pub HoldsReviewFiles : Option FileSystem → ReviewFiles → Result Documents FileError → Type 0
HoldsReviewFiles known files held = HoldsFiles known files.policy (named_files files) (held_of_review held)

-- 0 if the response allows the request, 1 if it does not
abbrev pub answer_status : Bool → ℕ
answer_status true = 0
answer_status false = 1

-- the response and a line feed
abbrev pub answer_report : Reply → Report
answer_report a = record { status = answer_status a.allowed; out = a.response ++ 10 ∷ [] }

-- the result of a review with a response, or of its refusal
abbrev pub review_outcome : Result Reply RunError → OrderOutcome
review_outcome (Ok a) = Ok (answer_report a)
review_outcome (Err e) = Err (run_refusal e)

-- the result of a review with these documents, of a policy in the language that is compiled; reads have no limit
pub data ReviewsHeld (chosen : Images) (n : ℕ) : Result Documents FileError → OrderOutcome → Type 0 where
  unread : {e : FileError} → ReviewsHeld chosen n (Err e) (Err (file_refusal e))
  reviewed : {d : Documents} (answer : Result Reply RunError) → d.language ≡ Profile → Reviews d (steps_alone n) answer
      → RunAgrees chosen d (steps_alone n) answer → ReviewsHeld chosen n (Ok d) (review_outcome answer)

-- `review`, for any contents of its files
pub record ReviewsFiles (chosen : Images) (old : Option FileSystem) (files : ReviewFiles) (n : ℕ) (new : Option FileSystem)
    (outcome : OrderOutcome) : Type 0 where
  pub held : Result Documents FileError
  pub holds : HoldsReviewFiles old files held
  pub stays : new ≡ old
  pub reviews : ReviewsHeld chosen n held outcome
