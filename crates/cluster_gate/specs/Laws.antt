-- Laws of what a cluster decides.
use Rattle.std.specs.Prelude.{◌≡◌, ℕ, ◌≤◌, Bool, true, false, List, [], ◌∷◌, Option, Some, None, Ok}
use Rattle.std.specs.List.{All}
use Rattle.serde_json.specs.Data as json
use Rattle.serde_json.specs.Read.{max_depth}
use Rattle.value_store.specs.Reviews.{uid_in}
use Rattle.policy_glue.specs.OneImage.{OneImage}
use Rattle.policy_glue.specs.Rejections.{response_text}
use Rattle.policy_glue.specs.declared.failure_policy.FailurePolicy.{FailurePolicy, TheVariants.Fail, TheVariants.Ignore}
use Rattle.admission.specs.declared.language.Language.{Language}
use Rattle.admission.specs.declared.limits.Limits.{Limits}
use Rattle.admission_match.specs.Matching.{match_answer}
use Rattle.admission_match.specs.Requests.{is_exempt}
use Rattle.admission_match.specs.declared.answer.Answer.TheVariants.{No}
use Rattle.admission_documents.specs.Requests.{Request}
use Rattle.cluster_state.specs.Items.{Collection}
use Rattle.cluster_state.specs.Params.{namespace_labels}
use Rattle.cluster_state.specs.Policies.{BoundPolicy}
use Rattle.cluster_state.specs.State.{ClusterState, state_of}
use Rattle.cluster_plan.specs.Steps.{fails_closed}
use Rattle.cluster_gate.specs.Dispatch.{DecidesInCluster, request_given}
use Rattle.cluster_gate.specs.Gates.{IsCompiledPolicy}

-- ---- requests that are allowed

-- a request that no policy is asked about is allowed
abbrev pub ExemptIsAllowed : Type 0
ExemptIsAllowed = (l : Language) (s : ClusterState) (review : List ℕ) (limits : Limits) (q : Request) (o : Option (List ℕ))
    → request_given review ≡ Some q → is_exempt q.attributes.resource ≡ true → DecidesInCluster l OneImage s review limits o
    → o ≡ Some (response_text None (uid_in review))

-- the constraints of none of these policies match
abbrev pub NoneMatches : ClusterState → Request → List BoundPolicy → Type 0
NoneMatches s q [] = Unit {0}
NoneMatches s q (p ∷ ps) = (match_answer p.constraints (namespace_labels s.objects) q.attributes ≡ No) × NoneMatches s q ps

-- a request that no policy matches is allowed
abbrev pub UnmatchedIsAllowed : Type 0
UnmatchedIsAllowed = (l : Language) (s : ClusterState) (review : List ℕ) (limits : Limits) (q : Request) (o : Option (List ℕ))
    → request_given review ≡ Some q → NoneMatches s q s.policies → DecidesInCluster l OneImage s review limits o
    → o ≡ Some (response_text None (uid_in review))

-- ---- one answer

-- the value is nested no deeper than JSON texts that are read
abbrev pub IsShallow : json.Data → Type 0
IsShallow d = json.depth d ≤ max_depth

-- no document of the state is nested deeper than JSON texts that are read
pub record HasShallowDocuments (s : ClusterState) : Type 0 where
  pub policies : All (λ p. IsShallow p.document) s.policies
  pub objects : (c : Collection) → All (λ o. IsShallow o.1) (s.objects c)

-- a state in lists that are nested no deeper has no deeper document
abbrev pub StatesAreShallow : Type 0
StatesAreShallow = (lists : List json.Data) (s : ClusterState) → All IsShallow lists → state_of lists ≡ Ok s → HasShallowDocuments s

-- a review has one answer in a cluster, if no document is nested deeper than JSON texts that are read
abbrev pub ReviewsHaveOneAnswer : Type 0
ReviewsHaveOneAnswer = (l : Language) (s : ClusterState) (review : List ℕ) (limits : Limits) (a b : Option (List ℕ)) → HasShallowDocuments s
    → DecidesInCluster l OneImage s review limits a → DecidesInCluster l OneImage s review limits b → a ≡ b

-- ---- the failure policy

-- whether an error denies under this failure policy
abbrev pub denies_errors : FailurePolicy → Bool
denies_errors Fail = true
denies_errors Ignore = false

-- the failure policy that the steps of a compiled policy use is the compiled policy's
abbrev pub FailsClosedAsCompiled : Type 0
FailsClosedAsCompiled = (l : Language) (p : BoundPolicy) (names : Bool) (c : IsCompiledPolicy l p names) → IsShallow p.document
    → fails_closed p.document ≡ denies_errors c.is_policy.parsed.failure_policy
