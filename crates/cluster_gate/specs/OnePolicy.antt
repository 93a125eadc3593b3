-- A cluster with one policy and one binding that match a request decides as a review under that policy.
use Rattle.std.specs.Prelude.{◌≡◌, ◌≢◌, ℕ, true, false, List, [], ◌∷◌, Option, Some, None, Result, Ok, Err}
use Rattle.serde_json.specs.Data as json
use Rattle.serde_json.specs.Written.{compact_text}
use Rattle.value_store.specs.Reviews.{uid_in}
use Rattle.policy_glue.specs.OneImage.{OneImage}
use Rattle.admission.specs.Deciding.{Documents, Reply}
use Rattle.admission.specs.OneAnswer.{IsAnswerTo}
use Rattle.admission.specs.declared.language.Language.{Language}
use Rattle.admission.specs.declared.limits.Limits.{Limits}
use Rattle.admission.specs.declared.run_error.RunError.{RunError}
use Rattle.admission.specs.declared.run_error.RunError.TheVariants as run_error
use Rattle.admission_documents.specs.Requests.{Request}
use Rattle.admission_match.specs.Matching.{match_answer}
use Rattle.admission_match.specs.Requests.{is_exempt}
use Rattle.admission_match.specs.declared.answer.Answer.TheVariants.{Yes}
use Rattle.cluster_state.specs.Bindings.{Binding}
use Rattle.cluster_state.specs.Params.{NamespaceObject, missing, namespace_labels, namespace_object, no_object, object}
use Rattle.cluster_state.specs.Policies.{BoundPolicy}
use Rattle.cluster_state.specs.State.{ClusterState}
use Rattle.cluster_state.specs.declared.action.Action.TheVariants.{Deny}
use Rattle.cluster_plan.specs.Steps.{fails_closed}
use Rattle.cluster_response.specs.Laws.{allowed_in}
use Rattle.cluster_response.specs.Response.{undecided_tree}
use Rattle.cluster_response.specs.declared.cluster_refusal.ClusterRefusal.{ClusterRefusal}
use Rattle.cluster_gate.specs.Dispatch.{DecidesInCluster, error_refusal, request_given}
use Rattle.cluster_gate.specs.Gates.{IsCompiledPolicy}
use Rattle.cluster_gate.specs.Laws.{HasShallowDocuments}
use Rattle.cluster_gate.specs.CompiledDocuments.{compiled_document}
use Rattle.cluster_gate.specs.Texts.{IsJsonTextIf, IsJsonTextOf}

-- the state has one policy, without params, and one binding of it that denies; both match the request, whose namespace is
-- found, if it needs one. No match condition names the namespace
pub record HasOnePolicy (l : Language) (s : ClusterState) (q : Request) (p : BoundPolicy) (b : Binding) : Type 0 where
  pub policies : s.policies ≡ p ∷ []
  pub bindings : s.bindings ≡ b ∷ []
  pub bound : b.policy_name ≡ p.name
  pub no_params : p.param_kind ≡ None
  pub actions : b.actions ≡ Deny ∷ []
  pub not_exempt : is_exempt q.attributes.resource ≡ false
  pub policy_matches : match_answer p.constraints (namespace_labels s.objects) q.attributes ≡ Yes
  pub binding_matches : match_answer b.resources (namespace_labels s.objects) q.attributes ≡ Yes
  pub found : namespace_object s.objects q.kind q.attributes.namespace ≢ missing
  pub unnamed : IsCompiledPolicy l p true → ⊥

-- the namespace that the policy sees
abbrev pub namespace_seen : NamespaceObject → Option json.Data
namespace_seen (object d) = Some d
namespace_seen no_object = None
namespace_seen missing = None

-- the documents of a review under that policy: its text without `status` and nulls, the review, the namespace and no params
pub record AreDocumentsOf (l : Language) (s : ClusterState) (review : List ℕ) (q : Request) (p : BoundPolicy) (d : Documents) : Type 0 where
  pub language : d.language ≡ l
  pub policy : IsJsonTextOf (compiled_document p.document) d.policy
  pub review_is : d.review ≡ review
  pub namespace : IsJsonTextIf (namespace_seen (namespace_object s.objects q.kind q.attributes.namespace)) d.namespace
  pub no_params : d.params ≡ None

-- the answer allows the request exactly if the reply does, or reports the same refusal
abbrev pub IsSameDecision : BoundPolicy → List ℕ → Result Reply RunError → json.Data → Type 0
IsSameDecision p uid (Ok reply) answer = allowed_in answer ≡ Some (json.boolean reply.allowed)
IsSameDecision p uid (Err e) answer =
    (r : ClusterRefusal) × (error_refusal e ≡ Some r)
    × (answer ≡ undecided_tree (record { policy = p.name; fails_closed = fails_closed p.document; refusal = r }) uid)

-- a cluster with one such policy decides as a review under the policy
abbrev pub OnePolicyIsReview : Type 0
OnePolicyIsReview = (l : Language) (s : ClusterState) (review : List ℕ) (limits : Limits) (q : Request) (p : BoundPolicy) (b : Binding)
    (d : Documents) (result : Result Reply RunError) (text : List ℕ)
    → HasShallowDocuments s → request_given review ≡ Some q → HasOnePolicy l s q p b → AreDocumentsOf l s review q p d
    → result ≢ Err run_error.Memory → IsAnswerTo d limits result → DecidesInCluster l OneImage s review limits (Some text)
    → (answer : json.Data) × (text ≡ compact_text answer) × IsSameDecision p (uid_in review) result answer
