-- A cluster with one policy decides as a review under that policy.
use Rattle.cluster_gate.proofs.ShallowSteps.{IsShallowNamespace, namespace_is}
use Rattle.cluster_state.specs.Policies.{ParamKind}
use Rattle.std.proofs.lemmas.Slice.Eq.{bytes_eq-Decides}
use Rattle.std.proofs.lemmas.List.Concat.{flat_map-cons}
use Rattle.std.proofs.lemmas.List.Elements.{All-head}
use Rattle.cluster_gate.specs.Gates.{IsRefusedPolicy, IsRefusedText, kind_of}
use Rattle.cluster_plan.specs.Steps.{bindings_of, binding_answered, binding_steps, evaluations, fails_closed, params_for, params_steps, policy_answered}
use Rattle.cluster_gate.proofs.Prelude.{◌≡◌, ◌∙◌, ◌∷◌, ◌++◌, ℕ, List, [], Bool, true, false, Option, Some, None, Result, Ok, Err, ap, append-nil, map, option_map, refl, subst, sym, BoundPolicy, ClusterState, Dispatches, Event, IsJudged, OneImage, PlannedStep, Request, RunsBindings, RunsSteps, asked_policy, block_of, by_block, policies_asked, policy_steps}
use Rattle.std.specs.List.{list_any, All}
use Rattle.std.proofs.Common.{inl, inr}
use Rattle.std.specs.Prelude.{◌≢◌, bytes_eq, if◌then◌else◌, cond, is_some, is_none, option_and_then, ◌&&◌}
use Rattle.serde_json.specs.Data as json
use Rattle.serde_json.specs.Written.{compact_text}
use Rattle.value_store.specs.Reviews.{uid_in}
use Rattle.policy_glue.specs.Evaluation.{decision_of}
use Rattle.policy_glue.specs.Findings.{PolicyFinding, findings_of}
use Rattle.policy_glue.specs.Naming.{conditions_name_namespace}
use Rattle.policy_glue.specs.declared.failure_policy.FailurePolicy.{FailurePolicy}
use Rattle.policy_glue.specs.OneAnswer.{CompileHasOneResult}
use Rattle.admission.proofs.Decided.{compiled_length}
use Rattle.admission.proofs.Said.{same_form}
use Rattle.admission.specs.Deciding.{Case, Documents, IsPolicy, IsPolicyRefused, Reply, Reviews, answer_of, decision, is_allowed}
use Rattle.admission.specs.Findings.{FindsReview}
use Rattle.admission.specs.OneAnswer.{IsAnswerTo, ReviewHasOneResult}
use Rattle.admission.specs.Standing.{RunAgrees}
use Rattle.admission.specs.declared.policy_refusal.PolicyRefusal.{PolicyRefusal}
use Rattle.admission.specs.declared.run_error.RunError.{RunError}
use Rattle.admission.specs.declared.run_error.RunError.TheVariants as run_error
use Rattle.cluster_state.specs.Bindings.{Binding}
use Rattle.cluster_state.specs.Params.{NamespaceObject, missing, namespace_object, no_object, object, KnownKind, known_kind}
use Rattle.cluster_state.specs.declared.action.Action.{Action}
use Rattle.cluster_state.specs.declared.action.Action.TheVariants.{Deny}
use Rattle.cluster_plan.specs.Steps as plan
use Rattle.cluster_response.proofs.Firsts.{told_one}
use Rattle.cluster_response.specs.Events.{Undecided, findings_events, is_closed, summary_of, action_event, finding_events}
use Rattle.cluster_response.specs.Laws.{AllowedExactly, allowed_in, is_against}
use Rattle.cluster_response.specs.Response.{answer_tree, cluster_response, undecided_tree}
use Rattle.cluster_response.specs.declared.cluster_refusal.ClusterRefusal.{ClusterRefusal}
use Rattle.cluster_response.specs.declared.cluster_refusal.ClusterRefusal.TheVariants as refusal
use Rattle.cluster_gate.proofs.FoundOrAllowed.{NoneExactlyIf, found_or_allowed}
use Rattle.cluster_gate.proofs.JudgedOnce.{compiled_or_refused, one_reading}
use Rattle.cluster_gate.proofs.SameReading.{SameReading, findings_moved, runs_moved, same_contents, same_policy, same_text_if, IsShallowIf, refused_moved}
use Rattle.cluster_gate.specs.Dispatch.{EvaluatesPolicy, error_refusal, undecided_event, no_policies, next, last, no_steps, blocked, found, refused, decided, no_bindings, next_binding, last_binding, FindsWith, block_refusal}
use Rattle.cluster_gate.specs.Laws.{HasShallowDocuments, IsShallow}
use Rattle.cluster_gate.specs.OnePolicy.{AreDocumentsOf, HasOnePolicy, IsSameDecision, OnePolicyIsReview, namespace_seen}
use Rattle.cluster_gate.specs.Texts.{IsJsonTextIf}
use Rattle.cluster_gate.specs.declared.block_cause.BlockCause.{BlockCause}
use Rattle.cluster_gate.specs.declared.block_cause.BlockCause.TheVariants.{Refused, RefusedWide, NamesNamespace, UnknownParamKind}
use Rattle.admission.specs.declared.language.Language.{Language, TheVariants.Profile, TheVariants.Wide}
use Rattle.admission.specs.declared.limits.Limits.{Limits}
use Rattle.admission.specs.declared.wide_refusal.WideRefusal.{WideRefusal}
use Rattle.wide_policy.specs.declared.message_rule.MessageRule.{MessageRule}

-- ---- languages

profile_refused : (l : Language) (text : List ℕ) (e : PolicyRefusal) → IsRefusedText l text (Refused e) → (l ≡ Profile) × IsPolicyRefused text e
profile_refused Profile text e is = (refl, is)
profile_refused (Wide rule) text e is = absurd is

is_wide : (l : Language) (text : List ℕ) (e : WideRefusal) → IsRefusedText l text (RefusedWide e) → (rule : MessageRule) × (l ≡ Wide rule)
is_wide Profile text e is = absurd is
is_wide (Wide rule) text e is = (rule, refl)

-- a review under a policy in the wide language has a policy that compiles
has_policy : (d : Documents) (limits : Limits) (rule : MessageRule) → d.language ≡ Wide rule → (r : Result Reply RunError) → r ≢ Err run_error.Memory → Reviews d limits r → IsPolicy d.language d.policy
has_policy d limits rule wide (Ok reply) some is = is.case.policy
has_policy d limits rule wide (Err (run_error.PolicyRefused e)) some is = let both : Profile ≡ Wide rule = sym is.0 ∙ wide in absurd (cc)
has_policy d limits rule wide (Err run_error.ReviewRefused) some (inl is) = is.0
has_policy d limits rule wide (Err run_error.ReviewRefused) some (inr is) = is.policy
has_policy d limits rule wide (Err run_error.NamespaceOrParamsRefused) some is = is.0
has_policy d limits rule wide (Err run_error.OutOfSteps) some is = is.case.policy
has_policy d limits rule wide (Err run_error.OverLimit) some is = is.case.policy
has_policy d limits rule wide (Err run_error.OutOfReads) some is = is.case.policy
has_policy d limits rule wide (Err run_error.Memory) some is = absurd (some refl)

-- The policies are read in this language.
module _ (language : Language) where
  -- ---- replies by findings

  -- the reply that the findings of a policy give: it allows exactly if there are none
  pub record HasReply (d : Documents) (limits : Limits) (found : List PolicyFinding) : Type 0 where
    pub reply : Reply
    pub answers : IsAnswerTo d limits (Ok reply)
    pub exactly : NoneExactlyIf reply.allowed found

  case_found : (d : Documents) (case : Case d) → NoneExactlyIf (is_allowed (decision case).outcome) (findings_of case.policy.told (decision case))
  case_found d case =
      let policy = case.policy in
      let alike = same_form d.language d.policy policy.told policy.parsed policy.wrapped policy.is_said in
      let many = compiled_length policy.parsed (Ok policy.trees) policy.trees policy.compiles refl in
      subst (λ (f : FailurePolicy). NoneExactlyIf (is_allowed (decision_of f policy.trees case.roots).outcome) (findings_of policy.told (decision_of f policy.trees case.roots))) alike.failure_policy
      (found_or_allowed policy.told policy.trees case.roots (many ∙ sym alike.validations))

  reply_by : (d : Documents) (limits : Limits) (fs : List PolicyFinding) → FindsReview d limits (Ok fs) → RunAgrees {A = List PolicyFinding} OneImage d limits (Ok fs) → HasReply d limits fs
  reply_by d limits fs finds runs =
      let case = finds.case in
      record {
        reply = answer_of case.policy.told (decision case) (uid_in d.review);
        answers = record { reviews = record { case = case; answer_is = refl }; runs = runs };
        exactly = subst (λ (l : List PolicyFinding). NoneExactlyIf (is_allowed (decision case).outcome) l) (sym finds.findings_are)
            (case_found d case);
      }

  -- ---- answers by events

  -- why the policy does not decide
  abbrev undecided : BoundPolicy → ClusterRefusal → Undecided
  undecided p r = record { policy = p.name; fails_closed = fails_closed p.document; refusal = r }

  refused_answer : (q : Request) (uid : List ℕ) (p : BoundPolicy) (r : ClusterRefusal)
      → answer_tree q uid (summary_of (undecided_event p r ∷ [])) ≡ undecided_tree (undecided p r) uid
  refused_answer q uid p r =
      ap (λ (o : Option Undecided). answer_tree q uid (record { denial = None; warnings = []; audit = None; undecided = o; ended = false }))
      (told_one is_closed (undecided p r))

  module _ (exactly : AllowedExactly) (q : Request) (uid : List ℕ) (policy : List ℕ) where
    first_denies : (b : Binding) (f : PolicyFinding) (rest : List PolicyFinding) → b.actions ≡ Deny ∷ []
        → list_any is_against (findings_events policy b (f ∷ rest) ++ []) ≡ true
    first_denies b f rest actions =
        ap (λ (l : List Event). list_any is_against (l ++ [])) (flat_map-cons (finding_events policy b) f rest)
        ∙ ap (λ (l : List Action). list_any is_against ((map (action_event policy b f) l ++ findings_events policy b rest) ++ [])) actions

    -- the events of findings under Deny alone
    denied_events : (b : Binding) (fs : List PolicyFinding) → b.actions ≡ Deny ∷ [] → (allowed : Bool) → NoneExactlyIf allowed fs
        → allowed_in (answer_tree q uid (summary_of (findings_events policy b fs ++ []))) ≡ Some (json.boolean allowed)
    denied_events b fs actions true none =
        subst (λ (l : List PolicyFinding). allowed_in (answer_tree q uid (summary_of (findings_events policy b l ++ []))) ≡ Some (json.boolean true)) (sym (none.none refl)) ((exactly q uid []).allowed refl refl)
    denied_events b fs actions false none =
        let some = none.some refl in
        (exactly q uid (findings_events policy b fs ++ [])).denied
        (ap (λ (l : List PolicyFinding). list_any is_against (findings_events policy b l ++ [])) some.are ∙ first_denies b some.head some.rest actions)

  -- ---- steps

  -- what one evaluation does
  data EvaluatesOne (p : BoundPolicy) (finds : FindsWith) (b : Binding) (params namespace : Option json.Data) : List Event → Type 0 where
    it_finds : {fs : List PolicyFinding} → finds params namespace (Ok fs) → EvaluatesOne p finds b params namespace (findings_events p.name b fs ++ [])
    it_refuses : {e : RunError} {r : ClusterRefusal} → finds params namespace (Err e) → error_refusal e ≡ Some r
        → EvaluatesOne p finds b params namespace (undecided_event p r ∷ [])

  module _ (p : BoundPolicy) (finds : FindsWith) where
    -- the events of one binding are those of its steps
    alone : (P : List Event → Type 0) (steps : List PlannedStep) → ((es : List Event) (ended : Bool) → RunsSteps p finds steps es ended → P es)
        → (es : List Event) (ended : Bool) → RunsBindings p finds (steps ∷ []) es ended → P es
    alone P steps each _ _ (next_binding {es = es} r no_bindings) = subst P (sym (append-nil es)) (each es false r)
    alone P steps each _ _ (last_binding {es = es} r) = each es true r

    one_step : (b : Binding) (params namespace : Option json.Data) (es : List Event) (ended : Bool) → RunsSteps p finds (plan.evaluates b params namespace ∷ []) es ended
        → EvaluatesOne p finds b params namespace es
    one_step b params namespace _ _ (found f no_steps) = it_finds f
    one_step b params namespace _ _ (refused f is) = it_refuses f is

    one_evaluation : (b : Binding) (params namespace : Option json.Data) (es : List Event) (ended : Bool)
        → RunsBindings p finds ((plan.evaluates b params namespace ∷ []) ∷ []) es ended → EvaluatesOne p finds b params namespace es
    one_evaluation b params namespace = alone (EvaluatesOne p finds b params namespace) (plan.evaluates b params namespace ∷ []) (one_step b params namespace)

    block_step : (k : plan.PolicyBlock) (es : List Event) (ended : Bool) → RunsSteps p finds (plan.is_blocked k ∷ []) es ended → es ≡ undecided_event p (block_refusal k) ∷ []
    block_step k _ _ blocked = refl

    one_block : (k : plan.PolicyBlock) (es : List Event) (ended : Bool) → RunsBindings p finds ((plan.is_blocked k ∷ []) ∷ []) es ended
        → es ≡ undecided_event p (block_refusal k) ∷ []
    one_block k = alone (λ (es : List Event). es ≡ undecided_event p (block_refusal k) ∷ []) (plan.is_blocked k ∷ []) (block_step k)

  itself : (t : List ℕ) → bytes_eq t t ≡ true
  itself t = (bytes_eq-Decides t t).1 refl

  -- an evaluation with the namespace that is found
  evaluated_with : (b : Binding) (o : NamespaceObject) → o ≢ missing → evaluations b o (None ∷ []) ≡ plan.evaluates b None (namespace_seen o) ∷ []
  evaluated_with b no_object there = refl
  evaluated_with b (object d) there = refl
  evaluated_with b missing there = absurd (there refl)

  module _ (s : ClusterState) (q : Request) (p : BoundPolicy) (b : Binding) (has : HasOnePolicy language s q p b) where
    abbrev Namespace : NamespaceObject
    Namespace = namespace_object s.objects q.kind q.attributes.namespace

    no_kind : kind_of s p ≡ None
    no_kind = ap (option_and_then (λ k. known_kind k s.items s.objects)) has.no_params

    matched : (block : Option plan.PolicyBlock) → policy_steps s (asked_policy s p) block q ≡ by_block s (asked_policy s p) q block
    matched block = ap (policy_answered s (asked_policy s p) block q) has.policy_matches

    the_binding : bindings_of p.name s.bindings ≡ b ∷ []
    the_binding =
        ap (bindings_of p.name) has.bindings
        ∙ ap (λ (t : Bool). cond t (b ∷ []) []) (ap (λ (t : List ℕ). bytes_eq t p.name) has.bound ∙ itself p.name)

    its_steps : binding_steps s (asked_policy s p) q b ≡ plan.evaluates b None (namespace_seen Namespace) ∷ []
    its_steps =
        ap (binding_answered s (asked_policy s p) q b) has.binding_matches
        ∙ (ap (λ (k : Option KnownKind). params_steps (fails_closed p.document) b Namespace (params_for s.objects k b.param_ref q.attributes.namespace)) no_kind
        ∙ evaluated_with b Namespace has.found)

    the_steps : policy_steps s (asked_policy s p) None q ≡ (plan.evaluates b None (namespace_seen Namespace) ∷ []) ∷ []
    the_steps =
        matched None
        ∙ (ap (map (binding_steps s (asked_policy s p) q)) the_binding ∙ ap (λ (l : List PlannedStep). l ∷ []) its_steps)

    asked_one : policies_asked s q ≡ p ∷ []
    asked_one = ap (λ (x : Bool). if x then [] else s.policies) has.not_exempt ∙ has.policies

  -- ---- the answer

  seen_shallow : (o : NamespaceObject) → IsShallowNamespace o → IsShallowIf (namespace_seen o)
  seen_shallow no_object is = is
  seen_shallow (object d) is = is
  seen_shallow missing is = is

  no_failure : (e : RunError) (r : ClusterRefusal) → error_refusal e ≡ Some r → ◌≢◌ {A = Result Reply RunError} (Err e) (Err run_error.Memory)
  no_failure e r is failed =
      let same : e ≡ run_error.Memory = cc in
      let none : None ≡ Some r = subst (λ (x : RunError). error_refusal x ≡ Some r) same is in absurd (cc)

  -- if the run agrees with a refusal as one kind of result, it agrees with it as any other
  agrees_alike : (A B : Type 0) (d : Documents) (limits : Limits) (e : RunError) → RunAgrees {A = A} OneImage d limits (Err e) → RunAgrees {A = B} OneImage d limits (Err e)
  agrees_alike A B d limits (run_error.PolicyRefused x) runs = runs
  agrees_alike A B d limits run_error.ReviewRefused runs = runs
  agrees_alike A B d limits run_error.NamespaceOrParamsRefused runs = runs
  agrees_alike A B d limits run_error.OutOfSteps runs = runs
  agrees_alike A B d limits run_error.OverLimit runs = runs
  agrees_alike A B d limits run_error.OutOfReads runs = runs
  agrees_alike A B d limits run_error.Memory runs = runs

  module _ (compiles : CompileHasOneResult) (reviews : ReviewHasOneResult) (exactly : AllowedExactly) (s : ClusterState) (review : List ℕ) (limits : Limits) (q : Request)
      (p : BoundPolicy) (b : Binding) (d : Documents) (result : Result Reply RunError) (shallow : HasShallowDocuments s) (has : HasOnePolicy language s q p b)
      (of : AreDocumentsOf language s review q p d) (some : result ≢ Err run_error.Memory) (is : IsAnswerTo d limits result) where
    -- the answer by these events is the decision of the review
    abbrev Same : List Event → Type 0
    Same es = IsSameDecision p (uid_in review) result (answer_tree q (uid_in review) (summary_of es))

    deep : IsShallow p.document
    deep = All-head (λ (x : BoundPolicy). IsShallow x.document) p [] (subst (All (λ (x : BoundPolicy). IsShallow x.document)) has.policies shallow.policies)

    seen_deep : IsShallowIf (namespace_seen (namespace_object s.objects q.kind q.attributes.namespace))
    seen_deep = seen_shallow (namespace_object s.objects q.kind q.attributes.namespace) (namespace_is s shallow.objects (asked_policy s p) q)

    same_reading : (r : Result (List PolicyFinding) RunError) (x : EvaluatesPolicy language OneImage review limits p None (namespace_seen (namespace_object s.objects q.kind q.attributes.namespace)) r)
        → SameReading x.documents d
    same_reading r x = record {
      language = x.language ∙ sym of.language;
      policy = one_reading language compiles p deep x.documents.policy d.policy x.policy of.policy;
      values = same_contents x.documents.review d.review x.documents.namespace d.namespace x.documents.params d.params
          (x.review_is ∙ sym of.review_is)
          (same_text_if (namespace_seen (namespace_object s.objects q.kind q.attributes.namespace)) x.documents.namespace d.namespace seen_deep x.namespace_text of.namespace)
          (same_text_if None x.documents.params d.params tt x.params_text (subst (λ (o : Option (List ℕ)). IsJsonTextIf None o) (sym of.no_params) tt));
    }

    by_evaluation : (es : List Event) → EvaluatesOne p (EvaluatesPolicy language OneImage review limits p) b None (namespace_seen (namespace_object s.objects q.kind q.attributes.namespace)) es → Same es
    by_evaluation _ (it_finds {fs = fs} x) =
        let same = same_reading (Ok fs) x in
        let told = reply_by d limits fs (findings_moved x.documents d same limits (Ok fs) x.finds) (runs_moved x.documents d same OneImage limits (Ok fs) x.runs) in
        let reply : result ≡ Ok told.reply = reviews d limits result (Ok told.reply) some (λ e. absurd (cc)) is told.answers in
        subst (λ (r : Result Reply RunError). IsSameDecision p (uid_in review) r (answer_tree q (uid_in review) (summary_of (findings_events p.name b fs ++ [])))) (sym reply)
        (denied_events exactly q (uid_in review) p.name b fs has.actions told.reply.allowed told.exactly)
    by_evaluation _ (it_refuses {e = e} {r = r} x why) =
        let same = same_reading (Err e) x in
        let answers : IsAnswerTo d limits (Err e) = record {
          reviews = findings_moved x.documents d same limits (Err e) x.finds;
          runs = agrees_alike (List PolicyFinding) Reply d limits e (runs_moved x.documents d same {A = List PolicyFinding} OneImage limits (Err e) x.runs);
        } in
        let refused : result ≡ Err e = reviews d limits result (Err e) some (no_failure e r why) is answers in
        subst (λ (y : Result Reply RunError). IsSameDecision p (uid_in review) y (answer_tree q (uid_in review) (summary_of (undecided_event p r ∷ [])))) (sym refused)
        (r, why, refused_answer q (uid_in review) p r)

    by_refusal : (e : PolicyRefusal) → IsRefusedPolicy language p (Refused e) → (es : List Event) → es ≡ undecided_event p refusal.PolicyRefused ∷ [] → Same es
    by_refusal e refuses es are =
        let why = profile_refused language refuses.text e refuses.refused in
        let same = same_policy refuses.text d.policy (one_reading language compiles p deep refuses.text d.policy refuses.has_text of.policy) in
        let answers : IsAnswerTo d limits (Err (run_error.PolicyRefused e)) = record {
          reviews = (of.language ∙ why.0, refused_moved refuses.text d.policy same e why.1);
          runs = tt;
        } in
        let refused : result ≡ Err (run_error.PolicyRefused e) = reviews d limits result (Err (run_error.PolicyRefused e)) some (λ x. absurd (cc)) is answers in
        subst Same (sym are)
        (subst (λ (y : Result Reply RunError). IsSameDecision p (uid_in review) y (answer_tree q (uid_in review) (summary_of (undecided_event p refusal.PolicyRefused ∷ [])))) (sym refused)
        (refusal.PolicyRefused, refl, refused_answer q (uid_in review) p refusal.PolicyRefused))

    -- a policy in the wide language that is refused has no reviews
    no_wide_refusal : (e : WideRefusal) → IsRefusedPolicy language p (RefusedWide e) → ⊥
    no_wide_refusal e refuses =
        let wide = is_wide language refuses.text e refuses.refused in
        let policy = subst (λ (l : Language). IsPolicy l d.policy) of.language (has_policy d limits wide.0 (of.language ∙ wide.1) result some is.reviews) in
        compiled_or_refused language compiles p deep (conditions_name_namespace policy.trees) (RefusedWide e)
        (record { text = d.policy; has_text = of.policy; is_policy = policy; naming = refl }) refuses

    by_cause : (cause : Option BlockCause) → IsJudged language s p cause → (es : List Event) (ended : Bool)
        → RunsBindings p (EvaluatesPolicy language OneImage review limits p) (policy_steps s (asked_policy s p) (option_map block_of cause) q) es ended → Same es
    by_cause None judged es ended runs =
        by_evaluation es (one_evaluation p (EvaluatesPolicy language OneImage review limits p) b None (namespace_seen (namespace_object s.objects q.kind q.attributes.namespace)) es ended
        (subst (λ (l : List (List PlannedStep)). RunsBindings p (EvaluatesPolicy language OneImage review limits p) l es ended) (the_steps s q p b has) runs))
    by_cause (Some (Refused e)) judged es ended runs =
        by_refusal e judged es (one_block p (EvaluatesPolicy language OneImage review limits p) plan.policy_refused es ended
        (subst (λ (l : List (List PlannedStep)). RunsBindings p (EvaluatesPolicy language OneImage review limits p) l es ended) (matched s q p b has (Some plan.policy_refused)) runs))
    by_cause (Some (RefusedWide e)) judged es ended runs = absurd (no_wide_refusal e judged)
    by_cause (Some NamesNamespace) judged es ended runs = absurd (has.unnamed judged)
    by_cause (Some UnknownParamKind) judged es ended runs =
        let lacks = ap (λ (k : Option ParamKind). is_some k && is_none (kind_of s p)) has.no_params in
        let both = sym judged.1 ∙ lacks in absurd (cc)

    one_dispatched : (es : List Event) → Dispatches language OneImage s review limits q (p ∷ []) es → Same es
    one_dispatched _ (next {es = es} a no_policies) = subst Same (sym (append-nil es)) (by_cause a.cause a.judged es false a.runs)
    one_dispatched _ (last {es = es} a) = by_cause a.cause a.judged es true a.runs

    pub as_review : (es : List Event) → Dispatches language OneImage s review limits q (policies_asked s q) es → Same es
    as_review es dispatches = one_dispatched es (subst (λ (ps : List BoundPolicy). Dispatches language OneImage s review limits q ps es) (asked_one s q p b has) dispatches)

  written : (q : Request) (uid : List ℕ) (es : List Event) → cluster_response q uid es ≡ compact_text (answer_tree q uid (summary_of es))
  unfolding cluster_response
  written q uid es = refl

pub one_policy_is_review : CompileHasOneResult → ReviewHasOneResult → AllowedExactly → OnePolicyIsReview
one_policy_is_review compiles reviews exactly language s review limits q p b d result _ shallow given has of some is (decided {q = r} {es = es} also dispatches) =
    let both : Some r ≡ Some q = sym also ∙ given in
    let same : r ≡ q = cc in
    let ours = subst (λ (x : Request). Dispatches language OneImage s review limits x (policies_asked s x) es) same dispatches in (
      answer_tree q (uid_in review) (summary_of es),
      ap (λ (x : Request). cluster_response x (uid_in review) es) same ∙ written language q (uid_in review) es,
      as_review language compiles reviews exactly s review limits q p b d result shallow has of some is es ours,
    )
