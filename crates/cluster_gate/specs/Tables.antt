-- Tables of evaluations, and the reviews from which they are made.
use Rattle.std.specs.Prelude.{◌≡◌, ℕ, List, Option, Some, Result, Ok, Err}
use Rattle.serde_json.specs.Data as json
use Rattle.value_store.specs.Documents.{document_given}
use Rattle.value_store.specs.Reviews.{parts_given}
use Rattle.review_tables.specs.DocumentPool.{OpenValues}
use Rattle.value_table.specs.Growing.{HasGrown}
use Rattle.value_table.specs.Held.{Held, held_contents}
use Rattle.review_tables.specs.ReviewTable.{ReviewTableReturns}
use Rattle.review_tables.specs.declared.pooled_document.PooledDocument.{PooledDocument}
use Rattle.review_tables.specs.declared.review_error.ReviewError.{ReviewError}
use Rattle.review_tables.specs.declared.review_error.ReviewError.TheVariants.{InvalidReview, InvalidDocument, RootRefused, ChargeTooLarge, Memory}
use Rattle.admission.specs.Deciding.{Documents}
use Rattle.cluster_gate.specs.Opened.{IsReadIf}
use Rattle.cluster_gate.specs.Texts.{IsJsonTextIf}

-- the document is here, and the review and the earlier values are still there
pub record IsPlacedIn (before after : OpenValues) (d : Option json.Data) (p : Option PooledDocument) : Type 0 where
  pub review : after.review ≡ before.review
  pub grown : HasGrown before.values after.values
  pub here : IsReadIf after.values d p

-- the document has a place, or is not JSON; or an allocation failed
abbrev pub PlaceReturns : OpenValues → Option json.Data → Result (OpenValues × Option PooledDocument) ReviewError → Type 0
PlaceReturns before d (Ok r) = IsPlacedIn before r.0 d r.1
PlaceReturns before d (Err InvalidDocument) = Unit {0}
PlaceReturns before d (Err Memory) = Unit {0}
PlaceReturns before d (Err InvalidReview) = ⊥
PlaceReturns before d (Err (RootRefused k)) = ⊥
PlaceReturns before d (Err ChargeTooLarge) = ⊥

-- the table of the roots of a review, params and a namespace, or the first refusal
pub record GivesTable (review : List ℕ) (params namespace : Option json.Data) (r : Result Held ReviewError) : Type 0 where
  pub namespace_text : Option (List ℕ)
  pub params_text : Option (List ℕ)
  pub namespace_is : IsJsonTextIf namespace namespace_text
  pub params_is : IsJsonTextIf params params_text
  pub returns : ReviewTableReturns held_contents r (parts_given (Some review)) (document_given namespace_text) (document_given params_text)

-- the table of the roots of a review, params and a namespace, or the first refusal, unless it is not known
abbrev pub SharesTable : List ℕ → Option json.Data → Option json.Data → Result Held ReviewError → Type 0
SharesTable review params namespace (Ok t) = GivesTable review params namespace (Ok t)
SharesTable review params namespace (Err (RootRefused k)) = GivesTable review params namespace (Err (RootRefused k))
SharesTable review params namespace (Err ChargeTooLarge) = GivesTable review params namespace (Err ChargeTooLarge)
SharesTable review params namespace (Err InvalidReview) = Unit {0}
SharesTable review params namespace (Err InvalidDocument) = Unit {0}
SharesTable review params namespace (Err Memory) = Unit {0}

-- the table of the roots in these documents, or the first refusal
abbrev pub IsTableOf : Documents → Result Held ReviewError → Type 0
IsTableOf d r = ReviewTableReturns held_contents r (parts_given (Some d.review)) (document_given d.namespace) (document_given d.params)
