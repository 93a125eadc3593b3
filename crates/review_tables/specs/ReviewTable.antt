-- The table of a review: the values of its roots, or why there is none.
use Rattle.std.specs.Prelude.{◌≡◌, List, Option, Some, None, IsSome, Result, Ok, Err, option_and_then, ◌⊎◌, ⊤}
use Rattle.serde_json.specs.Data as json
use Rattle.value_store.specs.Placing.{Contents}
use Rattle.value_store.specs.Roots.{value_of, start_contents}
use Rattle.value_store.specs.declared.table_error.TableError.{TableError, TheVariants.NotAnObject, TheVariants.NumberOutOfInt64, TheVariants.RootsTooLarge}
use Rattle.value_table.specs.Heap.{heap_values, IsHeap}
use Rattle.value_table.specs.Growing.{HasGrown}
use Rattle.review_tables.specs.Reading.{AddsPlaced}
use Rattle.value_store.specs.Reviews.{ReviewRoots, parts_in, request_of, root_documents}
use Rattle.review_tables.specs.ReviewReading.{IsPlacedRequest}
use Rattle.review_tables.specs.RootPlaces.{ArePlacedValues}
use Rattle.review_tables.specs.OtherRoots.{other_values, values_of_others, AreSoundOthers}
use Rattle.value_table.specs.declared.heap.Heap.{Heap}
use Rattle.review_tables.specs.declared.other_roots.OtherRoots.{OtherRoots}
use Rattle.review_tables.specs.declared.placed.Placed.{Placed}
use Rattle.review_tables.specs.declared.placed_request.PlacedRequest.{PlacedRequest}
use Rattle.review_tables.specs.declared.review_error.ReviewError.{ReviewError}
use Rattle.review_tables.specs.declared.review_error.ReviewError.TheVariants.{InvalidReview, InvalidDocument, RootRefused, ChargeTooLarge, Memory}

-- ---- the review

-- the request of a review's document was read
pub record ReviewIsRead (old new : Heap) (r : PlacedRequest) (review : Option json.Data) : Type 0 where
  pub members : json.Members
  pub is : option_and_then request_of review ≡ Some members
  pub heap : IsHeap new
  pub grown : HasGrown (heap_values old) (heap_values new)
  pub request : IsPlacedRequest (heap_values new) r members

abbrev pub ReviewReturns : Heap → Heap → Result PlacedRequest ReviewError → Option json.Data → Type 0
ReviewReturns old new (Ok r) review = ReviewIsRead old new r review
ReviewReturns old new (Err InvalidReview) review = option_and_then parts_in review ≡ None
ReviewReturns old new (Err Memory) review = ⊤
ReviewReturns old new (Err InvalidDocument) review = ⊥
ReviewReturns old new (Err (RootRefused k)) review = ⊥
ReviewReturns old new (Err ChargeTooLarge) review = ⊥

-- ---- the namespace and the params

-- a document was read
pub record DocumentIsRead (old new : Heap) (p : Option Placed) (due : Option json.Data) : Type 0 where
  pub document : json.Data
  pub is : due ≡ Some document
  pub puts : AddsPlaced old new p (value_of document)

abbrev pub DocumentReturns : Heap → Heap → Result (Option Placed) ReviewError → Option json.Data → Type 0
DocumentReturns old new (Ok p) due = DocumentIsRead old new p due
DocumentReturns old new (Err InvalidDocument) due = due ≡ None
DocumentReturns old new (Err Memory) due = ⊤
DocumentReturns old new (Err InvalidReview) due = ⊥
DocumentReturns old new (Err (RootRefused k)) due = ⊥
DocumentReturns old new (Err ChargeTooLarge) due = ⊥

-- the namespace and the params were read
pub record OthersAreRead (h : Heap) (o : OtherRoots) (namespace params : Option json.Data) : Type 0 where
  pub heap : IsHeap h
  pub sound : AreSoundOthers (heap_values h) (Some o)
  pub values : values_of_others (heap_values h) (Some o) ≡ other_values namespace params

abbrev pub OthersReturn : Heap → Result OtherRoots ReviewError → Option json.Data → Option json.Data → Type 0
OthersReturn h (Ok o) namespace params = OthersAreRead h o namespace params
OthersReturn h (Err InvalidDocument) namespace params = other_values namespace params ≡ None
OthersReturn h (Err Memory) namespace params = ⊤
OthersReturn h (Err InvalidReview) namespace params = ⊥
OthersReturn h (Err (RootRefused k)) namespace params = ⊥
OthersReturn h (Err ChargeTooLarge) namespace params = ⊥

-- ---- the roots

-- the values of the roots are those of these documents
pub record RootsArePlaced (h : Heap) (roots : List (Option Placed)) (parts : Option ReviewRoots)
    (namespace params : Option json.Data) : Type 0 where
  pub documents : List json.Data
  pub is : root_documents parts namespace params ≡ Some documents
  pub answer : ArePlacedValues (heap_values h) roots documents

-- the review has its parts, and another document is not JSON
abbrev pub OtherIsRefused : Option ReviewRoots → Option json.Data → Option json.Data → Type 0
OtherIsRefused parts namespace params = IsSome parts × ((namespace ≡ None) ⊎ (params ≡ None))

-- ---- the table

-- the documents of the roots are all there, and P holds for the contents at the start
abbrev pub HoldsForRoots : Option (List json.Data) → (Result Contents TableError → Type 0) → Type 0
HoldsForRoots documents P = (ds : List json.Data) × (documents ≡ Some ds) × P (start_contents ds)

-- the table of the roots, or the first refusal: of the review's form, another document, a root, or the charge
abbrev pub ReviewTableReturns : {S : Type 0} → (S → Contents) → Result S ReviewError → Option ReviewRoots
    → Option json.Data → Option json.Data → Type 0
ReviewTableReturns contents (Ok t) parts namespace params =
    HoldsForRoots (root_documents parts namespace params) (λ due. due ≡ Ok (contents t))
ReviewTableReturns contents (Err (RootRefused place)) parts namespace params =
    HoldsForRoots (root_documents parts namespace params) (λ due. (due ≡ Err (NotAnObject place)) ⊎ (due ≡ Err (NumberOutOfInt64 place)))
ReviewTableReturns contents (Err ChargeTooLarge) parts namespace params =
    HoldsForRoots (root_documents parts namespace params) (λ due. due ≡ Err RootsTooLarge)
ReviewTableReturns contents (Err InvalidReview) parts namespace params = parts ≡ None
ReviewTableReturns contents (Err InvalidDocument) parts namespace params = OtherIsRefused parts namespace params
ReviewTableReturns contents (Err Memory) parts namespace params = ⊤
