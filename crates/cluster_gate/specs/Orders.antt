-- What does not depend on the order of policies and of bindings, which API servers leave open.
use Rattle.std.specs.Prelude.{◌≡◌, ℕ, false, List, [], ◌∷◌, Option, Some, None, IsPermutation, bytes_eq}
use Rattle.std.specs.List.{list_any}
use Rattle.serde_json.specs.Data as json
use Rattle.value_store.specs.Reviews.{uid_in}
use Rattle.policy_glue.specs.OneImage.{OneImage}
use Rattle.admission.specs.declared.language.Language.{Language}
use Rattle.admission.specs.declared.limits.Limits.{Limits}
use Rattle.admission_documents.specs.Requests.{Request}
use Rattle.cluster_state.specs.Params.{known_kind}
use Rattle.cluster_state.specs.Policies.{ParamKind}
use Rattle.cluster_state.specs.State.{AreObjects, ClusterState}
use Rattle.cluster_response.specs.Events.{Event, has_end, summary_of}
use Rattle.cluster_response.specs.Laws.{allowed_in}
use Rattle.cluster_response.specs.Response.{answer_tree, cluster_response}
use Rattle.cluster_gate.specs.Dispatch.{DecidesInCluster, Dispatches, policies_asked, request_given}
use Rattle.cluster_gate.specs.Laws.{HasShallowDocuments}

-- the same elements, in any order
pub data InAnyOrder {A : Type 0} : List A → List A → Type 0 where
  none : InAnyOrder [] []
  first : {x : A} {xs ys : List A} → InAnyOrder xs ys → InAnyOrder (x ∷ xs) (x ∷ ys)
  exchanged : {x y : A} {xs : List A} → InAnyOrder (x ∷ y ∷ xs) (y ∷ x ∷ xs)
  through : {xs ys zs : List A} → InAnyOrder xs ys → InAnyOrder ys zs → InAnyOrder xs zs

-- two states that differ only in the order of their policies and of their bindings
pub record DifferInOrder (s t : ClusterState) : Type 0 where
  pub policies : InAnyOrder s.policies t.policies
  pub bindings : InAnyOrder s.bindings t.bindings
  pub objects : AreObjects s.objects t.objects
  pub kinds : (k : ParamKind) → known_kind k t.items t.objects ≡ known_kind k s.items s.objects

-- the answer to a request with this uid by these events
abbrev pub answer : Request → List ℕ → List Event → json.Data
answer q uid es = answer_tree q uid (summary_of es)

-- What two orders have in common. A request is allowed in both, denied in both, or decided in neither. Either both
-- dispatches end because the namespace is not found, or neither. If they do not end so, they have the same events, in any
-- order, and so the same warnings.
pub record HaveInCommon (q : Request) (uid : List ℕ) (es fs : List Event) : Type 0 where
  pub allowed : allowed_in (answer q uid es) ≡ allowed_in (answer q uid fs)
  pub not_found : has_end es ≡ has_end fs
  pub events : has_end es ≡ false → IsPermutation es fs
  pub warnings : has_end es ≡ false
      → (t : List ℕ) → list_any (bytes_eq t) (summary_of es).warnings ≡ list_any (bytes_eq t) (summary_of fs).warnings

-- the answers in two orders: none if there is no review, else those by the events of both, with these in common
pub data Agree (l : Language) (s t : ClusterState) (review : List ℕ) (limits : Limits) : Option (List ℕ) → Option (List ℕ) → Type 0 where
  no_reviews : request_given review ≡ None → Agree l s t review limits None None
  decisions : {q : Request} {es fs : List Event} → request_given review ≡ Some q
      → Dispatches l OneImage s review limits q (policies_asked s q) es → Dispatches l OneImage t review limits q (policies_asked t q) fs
      → HaveInCommon q (uid_in review) es fs
      → Agree l s t review limits (Some (cluster_response q (uid_in review) es)) (Some (cluster_response q (uid_in review) fs))

-- the answers to a review in two orders of the policies and of the bindings agree
abbrev pub OrderIsFree : Type 0
OrderIsFree = (l : Language) (s t : ClusterState) (review : List ℕ) (limits : Limits) (a b : Option (List ℕ))
    → HasShallowDocuments s → DifferInOrder s t → DecidesInCluster l OneImage s review limits a
    → DecidesInCluster l OneImage t review limits b → Agree l s t review limits a b
