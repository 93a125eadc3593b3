-- What is said of a request that is not allowed.
use Rattle.std.specs.Prelude.{ℕ, ◌==◌, List, [], ◌∷◌, ◌++◌, Option, Some, None, codes, length, if◌then◌else◌}
use Rattle.std.specs.List.{concat}
use Rattle.serde_json.specs.Data as json
use Rattle.admission_documents.specs.Documents.{field, text_of}
use Rattle.admission_documents.specs.Requests.{Request}
use Rattle.admission_match.specs.Requests.{GroupVersionResource}
use Rattle.cluster_plan.specs.Quotes.{go_quoted}
use Rattle.cluster_response.specs.Events.{ClusterDenial}

-- the text, or another one if it is empty
abbrev pub or_text : List ℕ → List ℕ → List ℕ
or_text t other = if length t == 0 then other else t

-- a text that may be absent, or another one if it is absent or empty
abbrev pub or_if_absent : Option (List ℕ) → List ℕ → List ℕ
or_if_absent None other = other
or_if_absent (Some t) other = or_text t other

-- the name in an object's metadata, or the prefix of the name that it will get
unfoldable pub name_given : json.Data → List ℕ
name_given d =
    or_if_absent (text_of (field (codes "name") d)) (or_if_absent (text_of (field (codes "generateName") d)) (codes "Unknown"))

-- the name in metadata that may be absent
abbrev pub name_in_metadata : Option json.Data → List ℕ
name_in_metadata None = codes "Unknown/errorGettingName"
name_in_metadata (Some d) = name_given d

-- the name in an object that may be absent
abbrev pub name_in_object : Option json.Data → List ℕ
name_in_object None = codes "Unknown"
name_in_object (Some d) = name_in_metadata (field (codes "metadata") d)

-- the name that is shown of a request: its own, or else the one in its object
abbrev pub shown_name : Request → List ℕ
shown_name q = or_text q.attributes.name (name_in_object q.object)

-- a resource with its group, if it has one
abbrev pub shown_resource : GroupVersionResource → List ℕ
shown_resource r = if length r.group == 0 then r.resource else r.resource ++ 46 ∷ r.group

-- the part of a message that names a binding
abbrev pub with_binding : Option (List ℕ) → List ℕ
with_binding None = []
with_binding (Some binding) = concat (codes " with binding '" ∷ binding ∷ codes "'" ∷ [])

-- what is forbidden: the resource and the name
unfoldable pub forbidden_text : Request → List ℕ
forbidden_text q = concat (
    shown_resource q.attributes.resource ∷ codes " " ∷ go_quoted (shown_name q) ∷ codes " is forbidden: " ∷ [])

-- by what, and why
unfoldable pub denial_text : ClusterDenial → List ℕ
denial_text d = concat (
    codes "ValidatingAdmissionPolicy '" ∷ d.policy ∷ codes "'" ∷ with_binding d.binding ∷ codes " denied request: " ∷ d.message ∷ [])

-- the message of a denial (apimachinery, NewForbidden)
unfoldable pub denied_message : Request → ClusterDenial → List ℕ
denied_message q d = forbidden_text q ++ denial_text d
