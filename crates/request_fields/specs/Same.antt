-- The request in the kept fields of a review is that of the whole review, as far as matching and the response read it.
use Rattle.std.specs.Prelude.{◌≡◌, ℕ, List, Option, Some, None, codes, is_some, option_and_then, option_map, ⊤}
use Rattle.serde_json.specs.Data as json
use Rattle.serde_json.specs.Find.{get_member}
use Rattle.value_store.specs.Reviews.{request_of}
use Rattle.json_fields.specs.Fields.{field, field_of, text_of}
use Rattle.admission_documents.specs.Requests.{Request, request_in}
use Rattle.request_fields.specs.Fields.{kept}
use Rattle.request_fields.specs.declared.level.Level.TheVariants.{Review}

-- the text of a key in an object's metadata
abbrev pub metadata_text : List ℕ → json.Data → Option (List ℕ)
metadata_text key d = text_of (field_of key (field (codes "metadata") d))

-- the second object has metadata if the first one has, with the same name and the same prefix of a name
pub record HasSameName (d e : json.Data) : Type 0 where
  pub metadata : is_some (field (codes "metadata") e) ≡ is_some (field (codes "metadata") d)
  pub name : metadata_text (codes "name") e ≡ metadata_text (codes "name") d
  pub prefix : metadata_text (codes "generateName") e ≡ metadata_text (codes "generateName") d

-- the second object is there if the first one is, and has the same name
abbrev pub IsSameObject : Option json.Data → Option json.Data → Type 0
IsSameObject None None = ⊤
IsSameObject (Some d) (Some e) = HasSameName d e
IsSameObject None (Some e) = ⊥
IsSameObject (Some d) None = ⊥

-- the second request is the first one; its objects may have fewer fields
pub record IsSameRequest (q r : Request) : Type 0 where
  pub kind : r.kind ≡ q.kind
  pub attributes : r.attributes ≡ q.attributes
  pub object : IsSameObject q.object r.object
  pub old_object : IsSameObject q.old_object r.old_object

-- the second request is there if the first one is, and is the same
abbrev pub IsSameRequestIf : Option Request → Option Request → Type 0
IsSameRequestIf None None = ⊤
IsSameRequestIf (Some q) (Some r) = IsSameRequest q r
IsSameRequestIf None (Some r) = ⊥
IsSameRequestIf (Some q) None = ⊥

-- the request of a review's document
abbrev pub request_in_review : json.Data → Option Request
request_in_review d = option_and_then request_in (option_map json.object (request_of d))

-- the `uid` of the request of a review's document
abbrev pub uid_in_review : json.Data → Option json.Data
uid_in_review d = option_and_then (get_member (codes "uid")) (request_of d)

-- what is read of a document is what is read of its kept fields
pub record KeepsRequest (d : json.Data) : Type 0 where
  pub request : IsSameRequestIf (request_in_review d) (request_in_review (kept Review d))
  pub uid : uid_in_review (kept Review d) ≡ uid_in_review d

abbrev pub RequestIsKept : Type 0
RequestIsKept = (d : json.Data) → KeepsRequest d
