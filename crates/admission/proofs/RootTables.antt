-- The table of a review's roots, stated for its documents.
use Rattle.admission.proofs.Prelude.{◌≡◌, ℕ, List, Option, Some, None, Result, Ok, Err, inl, inr, ◌⊎◌, refl, ap, ◌∙◌, Contents, start_contents, ReviewRoots, ReturnsDue, accepted, contents_from, contents_given, document_given, documents_from, documents_given, parts_given, RunError}
use Rattle.serde_json.specs.Data as json
use Rattle.value_store.specs.Reviews.{root_documents}
use Rattle.review_tables.specs.ReviewTable.{ReviewTableReturns}
use Rattle.review_tables.specs.declared.review_error.ReviewError.{ReviewError}
use Rattle.review_tables.specs.declared.review_error.ReviewError.TheVariants.{InvalidReview, InvalidDocument, RootRefused, ChargeTooLarge, Memory}
use Rattle.admission.specs.Reviews.{table_refusal}
use Rattle.admission.specs.declared.run_error.RunError.TheVariants as run_error

-- the documents of the roots
pub documents_are : (parts : Option ReviewRoots) (namespace params : Option json.Data) (ds : List json.Data) → root_documents parts namespace params ≡ Some ds
    → documents_from parts namespace params ≡ Ok ds
documents_are (Some p) (Some n) (Some q) ds e = cc
documents_are (Some p) (Some n) None ds e = absurd (cc)
documents_are (Some p) None q ds e = absurd (cc)
documents_are None n q ds e = absurd (cc)

contents_are : (parts : Option ReviewRoots) (namespace params : Option json.Data) (ds : List json.Data) → root_documents parts namespace params ≡ Some ds
    → contents_from (documents_from parts namespace params) ≡ accepted (start_contents ds)
contents_are parts namespace params ds is = ap contents_from (documents_are parts namespace params ds is)

no_parts : (parts : Option ReviewRoots) (namespace params : Option json.Data) → parts ≡ None → documents_from parts namespace params ≡ Err run_error.ReviewRefused
no_parts None namespace params e = refl
no_parts (Some p) namespace params e = absurd (cc)

no_other : (p : ReviewRoots) (namespace params : Option json.Data) → (namespace ≡ None) ⊎ (params ≡ None) → documents_from (Some p) namespace params ≡ Err run_error.NamespaceOrParamsRefused
no_other p None params e = refl
no_other p (Some n) None e = refl
no_other p (Some n) (Some q) (inl e) = absurd (cc)
no_other p (Some n) (Some q) (inr e) = absurd (cc)

pub documents_due : (review namespace params : Option (List ℕ)) (ds : List json.Data) → root_documents (parts_given review) (document_given namespace) (document_given params) ≡ Some ds
    → documents_given review namespace params ≡ Ok ds
unfolding documents_given
documents_due review namespace params ds is = documents_are (parts_given review) (document_given namespace) (document_given params) ds is

due_err : {A B : Type 0} (see : B → A) (due : Result A RunError) (e : RunError) → due ≡ Err e → ReturnsDue see due (Err e)
due_err see due (run_error.PolicyRefused p) is = is
due_err see due run_error.ReviewRefused is = is
due_err see due run_error.NamespaceOrParamsRefused is = is
due_err see due run_error.OutOfSteps is = is
due_err see due run_error.OverLimit is = is
due_err see due run_error.OutOfReads is = is
due_err see due run_error.Memory is = tt

module _ {S : Type 0} (contents : S → Contents) where
  -- the table has the contents that are due
  pub table_is : (parts : Option ReviewRoots) (namespace params : Option json.Data) (t : S) → ReviewTableReturns contents (Ok t) parts namespace params
      → contents_from (documents_from parts namespace params) ≡ Ok (contents t)
  table_is parts namespace params t h = contents_are parts namespace params h.0 h.1 ∙ ap accepted h.2

  -- the refusal is the one that is due
  pub refusal_is : (parts : Option ReviewRoots) (namespace params : Option json.Data) (e : ReviewError) → (e ≡ Memory → ⊥) → ReviewTableReturns contents (Err e) parts namespace params
      → contents_from (documents_from parts namespace params) ≡ Err (table_refusal e)
  refusal_is parts namespace params InvalidReview n h = ap contents_from (no_parts parts namespace params h)
  refusal_is (Some p) namespace params InvalidDocument n h = ap contents_from (no_other p namespace params h.1)
  refusal_is None namespace params InvalidDocument n h = absurd (let m = h.0 in cc)
  refusal_is parts namespace params (RootRefused place) n (ds, is, inl e) = contents_are parts namespace params ds is ∙ ap accepted e
  refusal_is parts namespace params (RootRefused place) n (ds, is, inr e) = contents_are parts namespace params ds is ∙ ap accepted e
  refusal_is parts namespace params ChargeTooLarge n (ds, is, e) = contents_are parts namespace params ds is ∙ ap accepted e
  refusal_is parts namespace params Memory n h = absurd (n refl)

  abbrev table_due_for : Option ReviewRoots → Option json.Data → Option json.Data → Result Contents RunError
  table_due_for parts namespace params = contents_from (documents_from parts namespace params)

  refused_for : (parts : Option ReviewRoots) (namespace params : Option json.Data) (e : ReviewError) → ReviewTableReturns contents (Err e) parts namespace params
      → {B : Type 0} (see : B → Contents) → ReturnsDue see (table_due_for parts namespace params) (Err (table_refusal e))
  refused_for parts namespace params Memory h see = tt
  refused_for parts namespace params InvalidReview h see = refusal_is parts namespace params InvalidReview (λ m. absurd (cc)) h
  refused_for parts namespace params InvalidDocument h see = refusal_is parts namespace params InvalidDocument (λ m. absurd (cc)) h
  refused_for parts namespace params (RootRefused k) h see = due_err see _ (table_refusal (RootRefused k)) (refusal_is parts namespace params (RootRefused k) (λ m. absurd (cc)) h)
  refused_for parts namespace params ChargeTooLarge h see = refusal_is parts namespace params ChargeTooLarge (λ m. absurd (cc)) h

  -- ---- stated for the texts
  module _ (review namespace params : Option (List ℕ)) where
    pub table_due : (t : S) → ReviewTableReturns contents (Ok t) (parts_given review) (document_given namespace) (document_given params)
        → contents_given review namespace params ≡ Ok (contents t)
    unfolding contents_given documents_given
    table_due t h = table_is (parts_given review) (document_given namespace) (document_given params) t h

    pub table_refused : (e : ReviewError) → ReviewTableReturns contents (Err e) (parts_given review) (document_given namespace) (document_given params)
        → {B : Type 0} (see : B → Contents) → ReturnsDue see (contents_given review namespace params) (Err (table_refusal e))
    unfolding contents_given documents_given
    table_refused e h see = refused_for (parts_given review) (document_given namespace) (document_given params) e h see

    pub refused_as : (e : ReviewError) → (e ≡ Memory → ⊥) → ReviewTableReturns contents (Err e) (parts_given review) (document_given namespace) (document_given params)
        → contents_given review namespace params ≡ Err (table_refusal e)
    unfolding contents_given documents_given
    refused_as e n h = refusal_is (parts_given review) (document_given namespace) (document_given params) e n h
