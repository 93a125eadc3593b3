-- Literal documents of reviews, and the values of their roots.
use Rattle.std.specs.Prelude.{◌≡◌, ℕ, pos, List, [], ◌∷◌, ◌++◌, map, Option, Some, None, Result, Ok, Err, codes}
use Rattle.value_store.specs.Placing.{Contents, first_values}
use Rattle.value_store.specs.Value as kind
use Rattle.value_store.specs.Value.{Value, value}
use Rattle.admission.specs.Reviews.{contents_given}
use Rattle.admission.specs.declared.run_error.RunError.{RunError, TheVariants.ReviewRefused, TheVariants.NamespaceOrParamsRefused}

-- a review with this request
abbrev pub review_of : List ℕ → List ℕ
review_of request = codes "{\"apiVersion\":\"admission.k8s.io/v1\",\"kind\":\"AdmissionReview\",\"request\":" ++ (request ++ codes "}")

abbrev pub given : List ℕ → Option (List ℕ) → Option (List ℕ) → Result Contents RunError
given request namespace params = contents_given (Some (review_of request)) namespace params

-- these roots, with their charge
abbrev pub holding : List Value → ℕ → Result Contents RunError
holding roots charge = Ok (record { values = first_values ++ map value roots; charge = charge })

abbrev pub with_uid : Value
with_uid = kind.map (kind.entry (codes "uid") (kind.text (codes "u1")) kind.no_entries)

abbrev pub replicas : Value
replicas =
    kind.map (kind.entry (codes "spec") (kind.map (kind.entry (codes "replicas") (kind.int (pos 5)) kind.no_entries)) kind.no_entries)

pub record RootRowsStand : Type 0 where
  pub a_review : given (codes "{\"uid\":\"u1\",\"object\":{\"spec\":{\"replicas\":5}}}") None None
      ≡ holding (replicas ∷ kind.null ∷ kind.null ∷ kind.null ∷ with_uid ∷ []) 28
  pub no_documents : contents_given None None None ≡ holding (kind.null ∷ kind.null ∷ kind.null ∷ kind.null ∷ kind.null ∷ []) 5
  pub others : given (codes "{\"oldObject\":{},\"uid\":\"u1\"}") (Some (codes "{\"a\":null}")) (Some (codes "{}"))
      ≡ holding (kind.null ∷ kind.map kind.no_entries ∷ kind.map kind.no_entries
      ∷ kind.map (kind.entry (codes "a") kind.null kind.no_entries) ∷ with_uid ∷ []) 15
  pub fraction : given (codes "{\"uid\":\"u1\",\"object\":{\"spec\":{\"replicas\":1.5}}}") None None ≡ Err ReviewRefused
  pub number_as_old_object : given (codes "{\"uid\":\"u1\",\"oldObject\":1}") None None ≡ Err ReviewRefused
  pub fraction_in_request : given (codes "{\"uid\":\"u1\",\"x\":1.5}") None None ≡ Err ReviewRefused
  pub number_as_params : given (codes "{\"uid\":\"u1\"}") None (Some (codes "1")) ≡ Err NamespaceOrParamsRefused
  pub text_as_namespace : given (codes "{\"uid\":\"u1\"}") (Some (codes "\"a\"")) None ≡ Err NamespaceOrParamsRefused
  pub no_json : given (codes "{\"uid\":\"u1\"}") (Some (codes "{")) None ≡ Err NamespaceOrParamsRefused
  pub no_uid : given (codes "{\"uid\":1}") None None ≡ Err ReviewRefused
  pub no_request : given (codes "null") None None ≡ Err ReviewRefused
  pub other_kind :
      contents_given (Some (codes "{\"apiVersion\":\"admission.k8s.io/v1\",\"kind\":\"Review\",\"request\":{\"uid\":\"u1\"}}")) None None
      ≡ Err ReviewRefused
  -- the review's form is checked before the other documents, and these before the roots
  pub form_first : given (codes "{}") None (Some (codes "{")) ≡ Err ReviewRefused
  pub params_first : given (codes "{\"uid\":\"u1\",\"object\":1}") None (Some (codes "{")) ≡ Err NamespaceOrParamsRefused
  pub object_first : given (codes "{\"uid\":\"u1\",\"object\":1}") (Some (codes "1")) None ≡ Err ReviewRefused
