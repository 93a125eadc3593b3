-- The results of reading a review.
use Rattle.std.specs.Prelude.{◌≡◌, ℕ, Bool, true, false, List, Option, Some, None, option_and_then, codes, ⊤}
use Rattle.json.specs.Token.{Token}
use Rattle.serde_json.specs.Data as json
use Rattle.serde_json.specs.Find.{get_member}
use Rattle.value_store.specs.Value as kind
use Rattle.value_store.specs.Value.{Value}
use Rattle.value_store.specs.Roots.{value_of}
use Rattle.value_table.specs.Growing.{HasGrown, IsValueAt}
use Rattle.value_table.specs.Heap.{heap_values, IsHeap}
use Rattle.review_tables.specs.Reading.{PlacedEntry, PlacesValue, AreMembers}
use Rattle.value_store.specs.Documents.{equals_string, is_text}
use Rattle.value_store.specs.Reviews.{members_in, request_of, without, member_or_null, parts_of}
use Rattle.value_table.specs.declared.heap.Heap.{Heap}
use Rattle.review_tables.specs.declared.placed.Placed.{Placed}
use Rattle.review_tables.specs.declared.placed_request.PlacedRequest.{PlacedRequest}
use Rattle.review_tables.specs.declared.review_fields.ReviewFields.{ReviewFields}

-- ---- its request

-- the place has the text of the member uid
pub record IsUid (vs : List Value) (place : ℕ) (ms : json.Members) : Type 0 where
  pub text : List ℕ
  pub is : get_member (codes "uid") ms ≡ Some (json.string text)
  pub value : IsValueAt vs place (kind.text text)

-- the place, if the uid is a text
abbrev pub IsUidOf : List Value → Option ℕ → json.Members → Type 0
IsUidOf vs (Some place) ms = IsUid vs place ms
IsUidOf vs None ms = is_text (get_member (codes "uid") ms) ≡ false

-- the values of the parts of a request with these members
pub record IsPlacedRequest (vs : List Value) (r : PlacedRequest) (ms : json.Members) : Type 0 where
  pub uid : IsUid vs r.uid ms
  pub object : PlacesValue vs r.object (value_of (parts_of ms).object)
  pub old_object : PlacesValue vs r.old_object (value_of (parts_of ms).old_object)
  pub rest : PlacesValue vs r.rest (value_of (parts_of ms).request)

-- the parts of the request with these members, if there is one
abbrev pub IsRequestOf : List Value → Option PlacedRequest → Option json.Members → Type 0
IsRequestOf vs None None = ⊤
IsRequestOf vs None (Some ms) = ⊥
IsRequestOf vs (Some r) None = ⊥
IsRequestOf vs (Some r) (Some ms) = IsPlacedRequest vs r ms

-- a member was removed from those that were read; it is null if there was none
pub record TakesMember (old new : Heap) (key : List ℕ) (before after : List PlacedEntry) (p : Option Placed)
    (ms : json.Members) : Type 0 where
  pub heap : IsHeap new
  pub grown : HasGrown (heap_values old) (heap_values new)
  pub value : PlacesValue (heap_values new) p (value_of (member_or_null key ms))
  pub rest : AreMembers (heap_values new) after (without key ms)

-- the request with these members was built
pub record MakesRequest (old new : Heap) (r : Option PlacedRequest) (ms : json.Members) : Type 0 where
  pub heap : IsHeap new
  pub grown : HasGrown (heap_values old) (heap_values new)
  pub request : IsRequestOf (heap_values new) r (members_in (json.object ms))

abbrev pub is_text_value : Value → Bool
is_text_value (kind.text s) = true
is_text_value _ = false

-- ---- the whole review

-- the fields of a review with these members
pub record AreReviewFields (vs : List Value) (found : ReviewFields) (ms : json.Members) : Type 0 where
  pub version : found.version ≡ equals_string (get_member (codes "apiVersion") ms) (codes "admission.k8s.io/v1")
  pub kind : found.kind ≡ equals_string (get_member (codes "kind") ms) (codes "AdmissionReview")
  pub request : IsRequestOf vs found.request (option_and_then members_in (get_member (codes "request") ms))

-- one more member was read
pub record ReadsMember (old new : Heap) (before after : ReviewFields) (key : List ℕ)
    (read : Option (json.Data × List Token)) (rest : List Token) : Type 0 where
  pub document : json.Data
  pub is : read ≡ Some (document, rest)
  pub heap : IsHeap new
  pub grown : HasGrown (heap_values old) (heap_values new)
  pub found : (ms : json.Members) → AreReviewFields (heap_values old) before ms
      → AreReviewFields (heap_values new) after (json.put key document ms)

-- the members of a review were read
pub record ReadsMembers (old new : Heap) (state : ReviewFields) (read : Option (json.Members × List Token))
    (rest : List Token) : Type 0 where
  pub members : json.Members
  pub is : read ≡ Some (members, rest)
  pub heap : IsHeap new
  pub grown : HasGrown (heap_values old) (heap_values new)
  pub found : AreReviewFields (heap_values new) state members

-- a request was read
pub record ReadsRequest (old new : Heap) (r : Option PlacedRequest) (read : Option (json.Data × List Token))
    (rest : List Token) : Type 0 where
  pub document : json.Data
  pub is : read ≡ Some (document, rest)
  pub heap : IsHeap new
  pub grown : HasGrown (heap_values old) (heap_values new)
  pub request : IsRequestOf (heap_values new) r (members_in document)

-- the value that was read was compared with a text
pub record ComparesText (same : Bool) (due : List ℕ) (read : Option (json.Data × List Token)) (rest : List Token) : Type 0 where
  pub document : json.Data
  pub is : read ≡ Some (document, rest)
  pub text : same ≡ equals_string (Some document) due

-- a review was read, if it is one
pub record ReadsReview (old new : Heap) (r : Option PlacedRequest) (read : Option json.Data) : Type 0 where
  pub document : json.Data
  pub is : read ≡ Some document
  pub heap : IsHeap new
  pub grown : HasGrown (heap_values old) (heap_values new)
  pub request : IsRequestOf (heap_values new) r (request_of document)

-- a value was read with the remaining tokens, and its request too if it is a review
pub record ReadsReviewValue (old new : Heap) (r : Option PlacedRequest) (read : Option (json.Data × List Token))
    (rest : List Token) : Type 0 where
  pub document : json.Data
  pub is : read ≡ Some (document, rest)
  pub heap : IsHeap new
  pub grown : HasGrown (heap_values old) (heap_values new)
  pub request : IsRequestOf (heap_values new) r (request_of document)
