-- Requests that are allowed because no policy does anything.
use Rattle.cluster_gate.proofs.Prelude.{◌≡◌, ◌∙◌, ℕ, List, [], Bool, true, false, Option, Some, None, ap, refl, subst, sym, BoundPolicy, ClusterState, Dispatches, Event, OneImage, PlannedStep, Request, RunsBindings, asked_policy, policies_asked, policy_steps}
use Rattle.value_store.specs.Reviews.{uid_in}
use Rattle.policy_glue.specs.Rejections.{response_text}
use Rattle.policy_glue.specs.Response.{review_tree}
use Rattle.admission_match.specs.Matching.{match_answer}
use Rattle.admission_match.specs.Requests.{is_exempt}
use Rattle.admission_match.specs.declared.answer.Answer.TheVariants.{No}
use Rattle.cluster_plan.specs.Steps.{PolicyBlock}
use Rattle.cluster_state.specs.Params.{namespace_labels}
use Rattle.cluster_response.specs.Response.{cluster_response}
use Rattle.cluster_gate.specs.Dispatch.{DecidesInCluster, FindsWith, no_review, decided, no_policies, next, last, no_bindings, next_binding, last_binding, request_given}
use Rattle.cluster_gate.specs.Laws.{ExemptIsAllowed, NoneMatches, UnmatchedIsAllowed}
use Rattle.admission.specs.declared.language.Language.{Language}
use Rattle.admission.specs.declared.limits.Limits.{Limits}

-- The policies are read in this language.
module _ (language : Language) where
  -- no events allow
  nothing_told : (q : Request) (uid : List ℕ) → cluster_response q uid [] ≡ response_text None uid
  unfolding cluster_response response_text review_tree
  nothing_told q uid = refl

  no_events : (p : BoundPolicy) (finds : FindsWith) (all : List (List PlannedStep)) (es : List Event) (ended : Bool) → RunsBindings p finds all es ended → all ≡ []
      → (es ≡ []) × (ended ≡ false)
  no_events p finds _ _ _ no_bindings e = (refl, refl)
  no_events p finds _ _ _ (next_binding r rest) e = absurd (cc)
  no_events p finds _ _ _ (last_binding r) e = absurd (cc)

  none_asked : (s : ClusterState) (review : List ℕ) (limits : Limits) (q : Request) (ps : List BoundPolicy) (es : List Event)
      → Dispatches language OneImage s review limits q ps es → ps ≡ [] → es ≡ []
  none_asked s review limits q _ _ no_policies e = refl
  none_asked s review limits q _ _ (next asks rest) e = absurd (cc)
  none_asked s review limits q _ _ (last asks) e = absurd (cc)

  steps_none : (s : ClusterState) (p : BoundPolicy) (cause : Option PolicyBlock) (q : Request) → match_answer p.constraints (namespace_labels s.objects) q.attributes ≡ No
      → policy_steps s (asked_policy s p) cause q ≡ []
  steps_none s p cause q answer = rw answer refl

  -- policies that do not match have no events
  all_silent : (s : ClusterState) (review : List ℕ) (limits : Limits) (q : Request) (ps : List BoundPolicy) (es : List Event)
      → Dispatches language OneImage s review limits q ps es → NoneMatches s q ps → es ≡ []
  all_silent s review limits q _ _ no_policies none = refl
  all_silent s review limits q _ _ (next {p = p} {ps = ps} {es = es} {more = more} asks rest) none =
      let silent = no_events p _ _ es false asks.runs (steps_none s p _ q none.0) in
      rw silent.0 (all_silent s review limits q ps more rest none.1)
  all_silent s review limits q _ _ (last {p = p} {ps = ps} {es = es} asks) none =
      let silent = (no_events p _ _ es true asks.runs (steps_none s p _ q none.0)).1 in absurd (cc)

  -- no events, no denial
  allowed_by : (s : ClusterState) (review : List ℕ) (limits : Limits) (q : Request) (o : Option (List ℕ)) → request_given review ≡ Some q
      → ((es : List Event) → Dispatches language OneImage s review limits q (policies_asked s q) es → es ≡ [])
      → DecidesInCluster language OneImage s review limits o → o ≡ Some (response_text None (uid_in review))
  allowed_by s review limits q _ is silent (no_review none) = absurd (cc)
  allowed_by s review limits q _ is silent (decided {q = r} {es = es} given dispatches) =
      let both : Some r ≡ Some q = sym given ∙ is in
      let same : r ≡ q = cc in
      let quiet = silent es (subst (λ (x : Request). Dispatches language OneImage s review limits x (policies_asked s x) es) same dispatches) in
      ap (λ (l : List Event). Some (cluster_response r (uid_in review) l)) quiet ∙ ap Some (nothing_told r (uid_in review))

  exempt_asked : (s : ClusterState) (q : Request) → is_exempt q.attributes.resource ≡ true → policies_asked s q ≡ []
  exempt_asked s q e = rw e refl

  asked_match : (s : ClusterState) (q : Request) (exempt : Bool) → is_exempt q.attributes.resource ≡ exempt → NoneMatches s q s.policies → NoneMatches s q (policies_asked s q)
  asked_match s q true e none = rw e tt
  asked_match s q false e none = rw e none

pub exempt_is_allowed : ExemptIsAllowed
exempt_is_allowed language s review limits q o is exempt decides =
    allowed_by language s review limits q o is (λ es dispatches. none_asked language s review limits q (policies_asked s q) es dispatches (exempt_asked language s q exempt)) decides

pub unmatched_is_allowed : UnmatchedIsAllowed
unmatched_is_allowed language s review limits q o is none decides =
    allowed_by language s review limits q o is (λ es dispatches. all_silent language s review limits q (policies_asked s q) es dispatches (asked_match language s q _ refl none)) decides
