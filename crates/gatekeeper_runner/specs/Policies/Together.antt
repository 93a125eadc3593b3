-- The joint decision of several policies on a review.
use Rattle.std.specs.Prelude.{◌≡◌, ◌≢◌, ℕ, Bool, true, false, List, [], ◌∷◌, ◌++◌, bytes_eq, codes, fold, map, Option, Some, None, Result, Ok, Err}
use Rattle.std.specs.List.{All}
use Rattle.std.specs.Option.{option_map_or}
use Rattle.std.specs.Prelude.{is_ok, unwrap_or}
use Rattle.value_store.specs.Placing.{Contents}
use Rattle.policy_glue.specs.Documents.{document_of}
use Rattle.policy_glue.specs.OneImage.{OneImage}
use Rattle.policy_glue.specs.Rejections.{Rejection}
use Rattle.admission.specs.Deciding.{Documents, IsGateOn}
use Rattle.admission.specs.Decisions.{Decision, DecidesReview, decision_value}
use Rattle.admission.specs.Reviews.{contents_given, uid_in}
use Rattle.admission.specs.Standing.{Images, RunAgrees}
use Rattle.admission.specs.declared.decision.Decision.{Decision as CodeDecision}
use Rattle.admission.specs.declared.language.Language.{Language}
use Rattle.admission.specs.declared.limits.Limits.{Limits}
use Rattle.admission.specs.declared.run_error.RunError.{RunError, TheVariants.Memory}
use Rattle.cluster_response.specs.Firsts.{told_of}
use Rattle.review_tables.specs.MemberText.{text_at}
use Rattle.gatekeeper_runner.specs.Refusals.{RefusingPolicy, Refused, label_view, refused_view}
use Rattle.gatekeeper_runner.specs.declared.policies.gatekeeper.Gatekeeper.{Gatekeeper as CodeGatekeeper}
use Rattle.gatekeeper_runner.specs.declared.policies.named_gate.NamedGate.{NamedGate}
use Rattle.gatekeeper_runner.specs.declared.refused.Refused.{Refused as CodeRefused}

-- ---- policies

-- the name of a policy's file, its language, and its document
pub record PolicyFile : Type 0 where
  pub file : List ℕ
  pub language : Language
  pub document : List ℕ

-- what every line is decided under: the policies in order, the other documents, the limits of each policy's program,
-- and the largest length of a line
pub record Gatekeeper : Type 0 where
  pub policies : List PolicyFile
  pub namespace : Option (List ℕ)
  pub params : Option (List ℕ)
  pub limits : Limits
  pub max_line : ℕ

-- the text at `metadata.name`, or else the name of the file; and the text at `spec.failurePolicy`, or else `Fail`
abbrev pub label_of : PolicyFile → RefusingPolicy
label_of p = record {
  name = unwrap_or (text_at (codes "metadata") (codes "name") (document_of p.document)) p.file;
  failure_policy = unwrap_or (text_at (codes "spec") (codes "failurePolicy") (document_of p.document)) (codes "Fail");
}

-- ---- one policy

-- the documents for a review under one of the policies
abbrev pub under : Gatekeeper → PolicyFile → List ℕ → Documents
under t policy review = record {
  language = policy.language;
  policy = policy.document;
  review = review;
  namespace = t.namespace;
  params = t.params;
}

-- the result of one policy for a review, and the matching state of its program's run
abbrev pub DecidesAlone : Images → Gatekeeper → PolicyFile → List ℕ → Result Decision RunError → Type 0
DecidesAlone chosen t policy review result =
    DecidesReview (under t policy review) t.limits result × RunAgrees chosen (under t policy review) t.limits result

-- a policy and its result
pub record PolicyResult : Type 0 where
  pub policy : PolicyFile
  pub result : Result Decision RunError

-- this is the result of the policy, and no allocation failed
pub record IsResult (chosen : Images) (t : Gatekeeper) (review : List ℕ) (r : PolicyResult) : Type 0 where
  pub decides : DecidesAlone chosen t r.policy review r.result
  pub no_memory : r.result ≢ Err Memory

abbrev pub AreResults : Images → Gatekeeper → List ℕ → List PolicyResult → Type 0
AreResults chosen t review [] = Unit {0}
AreResults chosen t review (r ∷ rs) = IsResult chosen t review r × AreResults chosen t review rs

-- ---- all policies

-- the rejection of one more policy is added: the messages joined with `; `, and the reason of the first
abbrev pub and_also : Option Rejection → Option Rejection → Option Rejection
and_also None next = next
and_also (Some first) None = Some first
and_also (Some first) (Some next) = Some (record { message = first.message ++ (codes "; " ++ next.message); reason = first.reason })

-- the rejection in a result, if the policy decided and rejects
abbrev pub rejection_in : Result Decision RunError → Option Rejection
rejection_in (Ok decision) = decision.rejection
rejection_in (Err e) = None

-- the rejections of the policies that decided, joined
abbrev pub rejections : List PolicyResult → Option Rejection
rejections results = fold and_also None (map (λ r. rejection_in r.result) results)

-- the failure policy is `Fail`
abbrev pub is_under_fail : RefusingPolicy → Bool
is_under_fail label = bytes_eq label.failure_policy (codes "Fail")

-- a policy under `Fail` refuses
abbrev pub is_by_fail : Refused → Bool
is_by_fail refused = option_map_or is_under_fail refused.policy false

abbrev pub refused_and : PolicyFile → Result Decision RunError → List Refused → List Refused
refused_and policy (Ok decision) others = others
refused_and policy (Err e) others = record { error = e; policy = Some (label_of policy) } ∷ others

-- the refusals among these results, in order
abbrev pub refusals : List PolicyResult → List Refused
refusals [] = []
refusals (r ∷ rs) = refused_and r.policy r.result (refusals rs)

-- the refusal that is told: the first by a policy under `Fail`, else the first
abbrev pub told_refusal : List PolicyResult → Option Refused
told_refusal results = told_of is_by_fail (refusals results)

-- the joint result: a rejection if a policy rejects, even if others refuse; else the refusal that is told; else the
-- request is allowed
abbrev pub joined : Option Rejection → Option Refused → List ℕ → Result Decision Refused
joined (Some rejection) refused uid = Ok (record { rejection = Some rejection; uid = uid })
joined None (Some refused) uid = Err refused
joined None None uid = Ok (record { rejection = None; uid = uid })

-- the values of the roots that all policies decide on, or why there are none
abbrev pub values_under : Gatekeeper → List ℕ → Result Contents RunError
values_under t review = contents_given (Some review) t.namespace t.params

-- the joint decision of all policies, or why the review is refused
pub data DecideTogether (chosen : Images) (t : Gatekeeper) (review : List ℕ) : Result Decision Refused → Type 0 where
  -- refused before any policy is asked
  no_values : {e : RunError} → values_under t review ≡ Err e
      → DecideTogether chosen t review (Err (record { error = e; policy = None }))
  decided : {values : Contents} (results : List PolicyResult) → values_under t review ≡ Ok values
      → map (λ r. r.policy) results ≡ t.policies → AreResults chosen t review results
      → DecideTogether chosen t review (joined (rejections results) (told_refusal results) (uid_in review))

-- ---- failure policies

-- the result of a policy is a decision, if the policy is under `Fail`
abbrev pub DecidesUnderFail : PolicyResult → Type 0
DecidesUnderFail r = is_under_fail (label_of r.policy) ≡ true → is_ok r.result ≡ true

-- each policy under `Fail` decides the review
pub record EachFailDecides (chosen : Images) (t : Gatekeeper) (review : List ℕ) : Type 0 where
  pub results : List PolicyResult
  pub of_policies : map (λ r. r.policy) results ≡ t.policies
  pub are : AreResults chosen t review results
  pub decide : All DecidesUnderFail results

-- a refusal names a policy that is not under `Fail` only if each policy under `Fail` decides
abbrev pub HidesNoFail : Images → Gatekeeper → List ℕ → Result Decision Refused → Type 0
HidesNoFail chosen t review (Ok decision) = Unit {0}
HidesNoFail chosen t review (Err refused) =
    (label : RefusingPolicy) → refused.policy ≡ Some label → is_under_fail label ≡ false → EachFailDecides chosen t review

-- ---- values of the code

-- a decision or refusal of the code
abbrev pub together_view : Result CodeDecision CodeRefused → Result Decision Refused
together_view (Ok decision) = Ok (decision_value decision)
together_view (Err refused) = Err (refused_view refused)

-- the gate belongs to this policy
pub record IsGateOf (p : PolicyFile) (g : NamedGate) : Type 0 where
  pub policy : IsGateOn p.language p.document g.gate
  pub image : OneImage g.gate.policy g.gate.image
  pub label : label_view g.label ≡ label_of p

-- the gates belong to these policies
abbrev pub AreGates : List PolicyFile → List NamedGate → Type 0
AreGates [] [] = Unit {0}
AreGates [] (gate ∷ gates) = ⊥
AreGates (policy ∷ policies) [] = ⊥
AreGates (policy ∷ policies) (gate ∷ gates) = IsGateOf policy gate × AreGates policies gates

abbrev pub gatekeeper_of : List PolicyFile → CodeGatekeeper → Gatekeeper
gatekeeper_of policies k = record {
  policies = policies;
  namespace = k.documents.namespace;
  params = k.documents.params;
  limits = k.limits;
  max_line = k.max_line;
}

-- the values and the uid of a review, with the gatekeeper's documents
pub record AreValuesOf (t : Gatekeeper) (review : List ℕ) (values : Contents) (uid : List ℕ) : Type 0 where
  pub values_are : values_under t review ≡ Ok values
  pub uid_is : uid ≡ uid_in review
