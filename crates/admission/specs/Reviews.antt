-- Why the roots in a review's documents are refused, and the results of reading them.
use Rattle.std.specs.Prelude.{◌≡◌, ℕ, ◌||◌, List, Option, Some, None, Result, Ok, Err, nat_eq, if◌then◌else◌}
use Rattle.serde_json.specs.Data as json
use Rattle.value_store.specs.Placing.{Contents}
use Rattle.value_store.specs.Roots.{start_contents}
use Rattle.value_store.specs.declared.table_error.TableError.{TableError, TheVariants.NotAnObject, TheVariants.NumberOutOfInt64, TheVariants.RootsTooLarge}
use Rattle.value_store.specs.declared.table_error.TableError.TheVariants as table_error
use Rattle.review_tables.specs.declared.review_error.ReviewError.{ReviewError}
use Rattle.review_tables.specs.declared.review_error.ReviewError.TheVariants as review_error
use Rattle.admission.specs.declared.run_error.RunError.{RunError}
use Rattle.admission.specs.declared.run_error.RunError.TheVariants.{PolicyRefused, ReviewRefused, NamespaceOrParamsRefused}
use Rattle.admission.specs.declared.run_error.RunError.TheVariants.{OutOfSteps, OverLimit, OutOfReads, Memory}
-- documents that may be absent, reviews with their parts, the roots, and the uid
pub use Rattle.value_store.specs.Documents.{document_given, is_text, text_or_empty}
pub use Rattle.value_store.specs.Reviews.{is_review, members_in, request_of, without, member_or_null}
pub use Rattle.value_store.specs.Reviews.{ReviewRoots, null_parts, parts_in, parts_given, roots_from}
unfoldable pub use Rattle.value_store.specs.Reviews.{parts_of, uid_in}

-- ---- roots

-- the refusal of a root; params and namespaceObject, at references 6 and 7, are not part of the review
abbrev pub refusal_at : ℕ → RunError
refusal_at place = if nat_eq place 6 || nat_eq place 7 then NamespaceOrParamsRefused else ReviewRefused

-- why values cannot be roots: by the reference of the first that is refused, or `ReviewRefused` if they are too large
-- together
abbrev pub root_refusal : TableError → RunError
root_refusal (NotAnObject place) = refusal_at place
root_refusal (NumberOutOfInt64 place) = refusal_at place
root_refusal RootsTooLarge = ReviewRefused
root_refusal table_error.Memory = Memory

-- the contents at the start, or why there are none
abbrev pub accepted : Result Contents TableError → Result Contents RunError
accepted (Ok contents) = Ok contents
accepted (Err e) = Err (root_refusal e)

-- why a review gives no table
abbrev pub table_refusal : ReviewError → RunError
table_refusal review_error.InvalidReview = ReviewRefused
table_refusal review_error.InvalidDocument = NamespaceOrParamsRefused
table_refusal (review_error.RootRefused place) = refusal_at place
table_refusal review_error.ChargeTooLarge = ReviewRefused
table_refusal review_error.Memory = Memory

-- the documents of the roots, or the first refusal: of the review's form, of the namespace, or of the params
abbrev pub documents_from : Option ReviewRoots → Option json.Data → Option json.Data → Result (List json.Data) RunError
documents_from (Some parts) (Some namespace) (Some params) = Ok (roots_from parts namespace params)
documents_from (Some parts) (Some namespace) None = Err NamespaceOrParamsRefused
documents_from (Some parts) None params = Err NamespaceOrParamsRefused
documents_from None namespace params = Err ReviewRefused

-- the documents of the roots in the texts of a review, a namespace and the params, or the first refusal
unfoldable pub documents_given : Option (List ℕ) → Option (List ℕ) → Option (List ℕ) → Result (List json.Data) RunError
documents_given review namespace params = documents_from (parts_given review) (document_given namespace) (document_given params)

-- the contents at the start with these roots, or the first refusal
abbrev pub contents_from : Result (List json.Data) RunError → Result Contents RunError
contents_from (Ok roots) = accepted (start_contents roots)
contents_from (Err e) = Err e

-- the contents at the start for the texts of a review, a namespace and the params, or the first refusal
unfoldable pub contents_given : Option (List ℕ) → Option (List ℕ) → Option (List ℕ) → Result Contents RunError
contents_given review namespace params = contents_from (documents_given review namespace params)

-- ---- results of the code

-- the result is the one that is due; or an allocation failed
abbrev pub ReturnsDue : {A B : Type 0} → (B → A) → Result A RunError → Result B RunError → Type 0
ReturnsDue see due (Ok b) = due ≡ Ok (see b)
ReturnsDue see due (Err (PolicyRefused e)) = due ≡ Err (PolicyRefused e)
ReturnsDue see due (Err ReviewRefused) = due ≡ Err ReviewRefused
ReturnsDue see due (Err NamespaceOrParamsRefused) = due ≡ Err NamespaceOrParamsRefused
ReturnsDue see due (Err OutOfSteps) = due ≡ Err OutOfSteps
ReturnsDue see due (Err OverLimit) = due ≡ Err OverLimit
ReturnsDue see due (Err OutOfReads) = due ≡ Err OutOfReads
ReturnsDue see due (Err Memory) = Unit {0}
