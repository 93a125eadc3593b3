-- A review (AdmissionReview, admission.k8s.io/v1), and the documents of its roots.
use Rattle.std.specs.Prelude.{ℕ, ◌&&◌, Bool, List, [], ◌∷◌, Option, Some, None, option_map, option_and_then, unwrap_or, codes, if◌then◌else◌}
use Rattle.std.specs.Str.{bytes_eq}
use Rattle.serde_json.specs.Data as json
use Rattle.serde_json.specs.Find.{get, get_member}
use Rattle.value_store.specs.Documents.{document_of, is_text, equals_string, text_or_empty}

-- whether the document has this API version and kind
abbrev pub is_review : json.Data → Bool
is_review d =
    equals_string (get (codes "apiVersion") d) (codes "admission.k8s.io/v1")
    && equals_string (get (codes "kind") d) (codes "AdmissionReview")

-- the members of a request, which must be an object whose `uid` is a string
abbrev pub members_in : json.Data → Option json.Members
members_in (json.object ms) = if is_text (get_member (codes "uid") ms) then Some ms else None
members_in _ = None

-- the members of a review's request; other keys of both are allowed
abbrev pub request_of : json.Data → Option json.Members
request_of d = if is_review d then option_and_then members_in (get (codes "request") d) else None

-- the members without the one at a key (an object has a key at most once)
abbrev pub without : List ℕ → json.Members → json.Members
without key json.no_members = json.no_members
without key (json.member k d ms) = if bytes_eq key k then ms else json.member k d (without key ms)

-- the value of a key, null if it is absent
abbrev pub member_or_null : List ℕ → json.Members → json.Data
member_or_null key ms = unwrap_or (get_member key ms) json.null

-- the roots taken from a review
pub record ReviewRoots : Type 0 where
  pub object : json.Data
  pub old_object : json.Data
  pub request : json.Data

-- the request's `object` and `oldObject`, null where absent, and the request without those two keys
unfoldable pub parts_of : json.Members → ReviewRoots
parts_of ms = record {
  object = member_or_null (codes "object") ms;
  old_object = member_or_null (codes "oldObject") ms;
  request = json.object (without (codes "oldObject") (without (codes "object") ms));
}

-- the roots if no review is given
abbrev pub null_parts : ReviewRoots
null_parts = record { object = json.null; old_object = json.null; request = json.null }

-- the roots of a document, if it is a review
abbrev pub parts_in : json.Data → Option ReviewRoots
parts_in d = option_map parts_of (request_of d)

-- the roots of optional bytes: null if none are given, None if they are not a review
abbrev pub parts_given : Option (List ℕ) → Option ReviewRoots
parts_given (Some bytes) = option_and_then parts_in (document_of bytes)
parts_given None = Some null_parts

-- the documents of the roots in the order of their references, from 4 on
abbrev pub roots_from : ReviewRoots → json.Data → json.Data → List json.Data
roots_from parts namespace params = parts.object ∷ parts.old_object ∷ params ∷ namespace ∷ parts.request ∷ []

-- the documents of the roots, if all are valid
abbrev pub root_documents : Option ReviewRoots → Option json.Data → Option json.Data → Option (List json.Data)
root_documents (Some parts) (Some namespace) (Some params) = Some (roots_from parts namespace params)
root_documents (Some parts) (Some namespace) None = None
root_documents (Some parts) None params = None
root_documents None namespace params = None

-- the uid of the request of a review, empty if the bytes are not a review
unfoldable pub uid_in : List ℕ → List ℕ
uid_in bytes = text_or_empty (option_and_then (get_member (codes "uid")) (option_and_then request_of (document_of bytes)))
