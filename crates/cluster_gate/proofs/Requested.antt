-- The requests of reviews.
use Rattle.cluster_gate.proofs.Prelude.{◌≡◌, ℕ, List, Some, None, option_and_then, refl}
use Rattle.std.proofs.Common.{codes}
use Rattle.serde_json.specs.Data as json
use Rattle.serde_json.specs.Find.{get_member}
use Rattle.value_store.specs.Documents.{document_of}
use Rattle.value_store.specs.Reviews.{request_of, uid_in}
use Rattle.admission_documents.specs.Requests.{request_in}
use Rattle.cluster_gate.specs.Dispatch.{request_document, request_given}

-- bytes that are no document
pub not_json : (review : List ℕ) → document_of review ≡ None → request_given review ≡ None
unfolding request_given
not_json review is = rw is refl

-- a document that is not a review
pub not_review : (review : List ℕ) (d : json.Data) → document_of review ≡ Some d → request_document d ≡ None → request_given review ≡ None
unfolding request_given
not_review review d is none = rw (is, none) refl

-- the request of a review
pub request_is : (review : List ℕ) (d request : json.Data) → document_of review ≡ Some d → request_document d ≡ Some request → request_given review ≡ request_in request
unfolding request_given
request_is review d request is found = rw (is, found) refl

-- its uid
pub uid_is : (review : List ℕ) (d : json.Data) (uid : List ℕ) → document_of review ≡ Some d
    → option_and_then (get_member (codes "uid")) (request_of d) ≡ Some (json.string uid) → uid_in review ≡ uid
unfolding uid_in
uid_is review d uid is found = rw (is, found) refl
