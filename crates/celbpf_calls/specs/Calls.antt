-- The effects of the calls without a gate.
use Rattle.std.specs.Prelude.{◌≡◌, ℕ, List, Option, Some, None, Result, Ok, Err, Vec, length, if◌then◌else◌, ◌==◌}
use Rattle.std.specs.declared.alloc.Global.{Global}
use Rattle.loader.specs.Format.{file_of}
use Rattle.policy_glue.specs.OneImage.{OneImage}
use Rattle.admission.specs.Deciding.{CompilesDocument, Documents, IsPolicyOf, Reply, Reviews}
use Rattle.admission.specs.Standing.{Images, RunAgrees}
use Rattle.admission.specs.declared.language.Language.{Language}
use Rattle.admission.specs.declared.limits.Limits.{Limits}
use Rattle.admission.specs.declared.policy_and_image.PolicyAndImage.{PolicyAndImage}
use Rattle.admission.specs.declared.policy_refusal.PolicyRefusal.{PolicyRefusal}
use Rattle.admission.specs.declared.run_error.RunError.{RunError}
use Rattle.cli.specs.Refusals.{policy_refusal_of, refusal_line}
use Rattle.celbpf_calls.specs.Statuses.{policy_status}
use Rattle.celbpf_calls.specs.Output.{Writes, WritesDecision, WritesDone}
use Rattle.celbpf_calls.specs.declared.asked.Asked.{Asked}

-- the version of the interface
abbrev pub interface_version : ℕ
interface_version = 1

-- ---- documents

-- an optional document: no bytes mean that there is none
abbrev pub given : List ℕ → Option (List ℕ)
given document = if length document == 0 then None else Some document

-- the documents of a policy in this language, and of a review under it
abbrev pub documents_of : Language → List ℕ → List ℕ → List ℕ → List ℕ → Documents
documents_of language policy review namespace params =
    record { language = language; policy = policy; review = review; namespace = given namespace; params = given params }

-- these documents, as they are asked
abbrev pub documents_asked : Language → List ℕ → Asked → Documents
documents_asked language policy asked = documents_of language policy asked.review.now asked.namespace.now asked.params.now

-- ---- results

-- the result of the review is written, and the run of such an image within these limits matches it
abbrev pub Answers : Images → Documents → Limits → ℕ → List ℕ → List ℕ → ℕ → Type 0
Answers chosen d limits status before after n =
    (answer : Result Reply RunError) × Reviews d limits answer × RunAgrees chosen d limits answer
    × WritesDecision answer status before after n

-- ---- files of images

-- the bytes of a file
abbrev pub file_view : Result (Vec ℕ Global) PolicyRefusal → Result (List ℕ) PolicyRefusal
file_view (Ok file) = Ok file.items
file_view (Err e) = Err e

-- the file of the image of the policy in a document, or why there is none
abbrev pub IsFileOf : List ℕ → Result (List ℕ) PolicyRefusal → Type 0
IsFileOf document (Ok file) = (c : PolicyAndImage) × IsPolicyOf document c × OneImage c.policy c.image × (file ≡ file_of c.image)
IsFileOf document (Err e) = CompilesDocument document (Err e)

-- the file or the refusal is written
abbrev pub WritesImageFile : Result (List ℕ) PolicyRefusal → ℕ → List ℕ → List ℕ → ℕ → Type 0
WritesImageFile (Ok file) status before after n = WritesDone file status before after n
WritesImageFile (Err e) status before after n = (status ≡ policy_status e) × Writes (refusal_line (policy_refusal_of e)) before after n

-- the file of the image of the policy in a document is written
abbrev pub CompilesToRoom : List ℕ → ℕ → List ℕ → List ℕ → ℕ → Type 0
CompilesToRoom document status before after n =
    (file : Result (List ℕ) PolicyRefusal) × IsFileOf document file × WritesImageFile file status before after n
