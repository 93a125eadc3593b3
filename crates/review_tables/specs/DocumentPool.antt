-- Documents that are read once for any number of reviews, and reviews that are read beside them.
use Rattle.std.specs.Prelude.{◌≡◌, ℕ, refl, List, Option, Some, None, Result, Ok, Err, option_and_then, ⊤}
use Rattle.std.specs.Coded.{Coded, code_by}
use Rattle.serde_json.specs.Data as json
use Rattle.value_store.specs.Documents.{document_of}
use Rattle.value_store.specs.Reviews.{parts_in, parts_of, request_of}
use Rattle.value_store.specs.Roots.{value_of}
use Rattle.value_store.specs.Value as kind
use Rattle.value_store.specs.Codes.{coded_stored}
use Rattle.value_store.specs.Value.{Value, ValueOrError, error, value}
use Rattle.value_table.specs.Growing.{HasGrown}
use Rattle.review_tables.specs.Reading.{IsSoundPlace, PlacesValue}
use Rattle.review_tables.specs.declared.placed.Placed.{Placed}
use Rattle.review_tables.specs.declared.placed_request.PlacedRequest.{PlacedRequest}
use Rattle.review_tables.specs.declared.pooled_document.PooledDocument.{PooledDocument}
use Rattle.review_tables.specs.declared.review_error.ReviewError.{ReviewError}
use Rattle.review_tables.specs.declared.review_error.ReviewError.TheVariants.{InvalidReview, InvalidDocument, RootRefused, ChargeTooLarge, Memory}

-- ---- the code of a value

abbrev value_or_null : ValueOrError → Value
value_or_null error = kind.null
value_or_null (value v) = v

-- the encoding of values
abbrev pub coded_value : Coded Value
coded_value = code_by ValueOrError coded_stored value value_or_null (λ v. refl)

-- ---- documents

-- the value of this document is here, among these
abbrev pub IsPooled : List Value → PooledDocument → json.Data → Type 0
IsPooled vs p document = PlacesValue vs p.placed (value_of document)

-- a document was read, and the values before it are there still
pub record IsPooledAfter (before after : List Value) (p : PooledDocument) (due : Option json.Data) : Type 0 where
  pub document : json.Data
  pub is : due ≡ Some document
  pub grown : HasGrown before after
  pub pooled : IsPooled after p document

-- ---- optional documents

-- the place of an optional document; a missing one is null
abbrev pub place_or : Option PooledDocument → Placed → Option Placed
place_or (Some p) null = p.placed
place_or None null = Some null

-- this document is given, or null if none is
abbrev pub IsGiven : List Value → Option PooledDocument → json.Data → Type 0
IsGiven vs (Some p) document = IsPooled vs p document
IsGiven vs None document = document ≡ json.null

abbrev pub IsSoundGiven : List Value → Option PooledDocument → Type 0
IsSoundGiven vs (Some p) = IsSoundPlace vs p.placed
IsSoundGiven vs None = ⊤

-- ---- reviews

-- the bytes of a review, and the values that were read of it and of documents
pub record OpenValues : Type 0 where
  pub review : List ℕ
  pub values : List Value

-- the values of the request of a review's document, and a null
pub record HoldsReview (vs : List Value) (r : PlacedRequest) (null : Placed) (review : Option json.Data) : Type 0 where
  pub members : json.Members
  pub is : option_and_then request_of review ≡ Some members
  pub object : PlacesValue vs r.object (value_of (parts_of members).object)
  pub old_object : PlacesValue vs r.old_object (value_of (parts_of members).old_object)
  pub rest : PlacesValue vs r.rest (value_of (parts_of members).request)
  pub null_value : PlacesValue vs (Some null) (Some kind.null)

-- ---- results

abbrev pub PoolReturns : List Value → Result (List Value × PooledDocument) ReviewError → Option json.Data → Type 0
PoolReturns before (Ok r) due = IsPooledAfter before r.0 r.1 due
PoolReturns before (Err InvalidDocument) due = due ≡ None
PoolReturns before (Err Memory) due = ⊤
PoolReturns before (Err InvalidReview) due = ⊥
PoolReturns before (Err (RootRefused k)) due = ⊥
PoolReturns before (Err ChargeTooLarge) due = ⊥

abbrev pub GrowReturns : OpenValues → Result (OpenValues × PooledDocument) ReviewError → Option json.Data → Type 0
GrowReturns before (Ok r) due = (r.0.review ≡ before.review) × IsPooledAfter before.values r.0.values r.1 due
GrowReturns before (Err InvalidDocument) due = due ≡ None
GrowReturns before (Err Memory) due = ⊤
GrowReturns before (Err InvalidReview) due = ⊥
GrowReturns before (Err (RootRefused k)) due = ⊥
GrowReturns before (Err ChargeTooLarge) due = ⊥

abbrev pub OpenReturns : List Value → Result OpenValues ReviewError → List ℕ → Type 0
OpenReturns before (Ok o) review = (o.review ≡ review) × HasGrown before o.values
OpenReturns before (Err InvalidReview) review = option_and_then parts_in (document_of review) ≡ None
OpenReturns before (Err Memory) review = ⊤
OpenReturns before (Err InvalidDocument) review = ⊥
OpenReturns before (Err (RootRefused k)) review = ⊥
OpenReturns before (Err ChargeTooLarge) review = ⊥
