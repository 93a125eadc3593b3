-- A review has one answer in a cluster.
use Rattle.cluster_gate.specs.declared.block_cause.BlockCause.{BlockCause}
use Rattle.cluster_gate.proofs.Prelude.{◌≡◌, ◌∙◌, ◌∷◌, ◌++◌, ℕ, List, [], Bool, true, false, Option, Some, None, Result, Ok, Err, ap, option_map, refl, subst, sym, AsksPolicy, BoundPolicy, ClusterState, Dispatches, Event, OneImage, PlannedStep, Request, RunsBindings, RunsSteps, asked_policy, block_of, policies_asked, policy_steps, IsJudged}
use Rattle.std.proofs.lemmas.List.Elements.{All-head, All-nil, All-tail, All-weaker}
use Rattle.std.specs.List.{All}
use Rattle.std.specs.Prelude.{◌≢◌, if◌then◌else◌}
use Rattle.serde_json.specs.Data as json
use Rattle.value_store.specs.Reviews.{uid_in}
use Rattle.policy_glue.specs.Findings.{PolicyFinding}
use Rattle.policy_glue.specs.OneAnswer.{CompileHasOneResult}
use Rattle.admission.specs.OneAnswer.{FindingsHaveOneResult}
use Rattle.admission.specs.declared.run_error.RunError.{RunError, TheVariants.Memory}
use Rattle.admission_match.specs.Requests.{is_exempt}
use Rattle.cluster_plan.specs.Steps as plan
use Rattle.cluster_response.specs.Events.{configuration_event, findings_events}
use Rattle.cluster_response.specs.Response.{cluster_response}
use Rattle.cluster_response.specs.declared.cluster_refusal.ClusterRefusal.{ClusterRefusal}
use Rattle.cluster_gate.proofs.JudgedOnce.{judged_once}
use Rattle.cluster_gate.proofs.SameReading.{IsShallowIf, SameReading, findings_moved, runs_moved, same_contents, same_text, same_text_if, compiled_shallow}
use Rattle.cluster_gate.proofs.ShallowSteps.{AreShallow, IsShallowStep, steps_are_shallow}
use Rattle.cluster_gate.specs.Dispatch.{DecidesInCluster, EvaluatesPolicy, FindsWith, error_refusal, undecided_event, no_review, decided, no_policies, next, last, no_steps, denied, not_known, blocked, found, refused, at_end, no_bindings, next_binding, last_binding}
use Rattle.cluster_gate.specs.Laws.{HasShallowDocuments, IsShallow, ReviewsHaveOneAnswer}
use Rattle.cluster_gate.specs.CompiledDocuments.{compiled_document}
use Rattle.admission.specs.declared.language.Language.{Language}
use Rattle.admission.specs.declared.limits.Limits.{Limits}

-- The policies are read in this language.
module _ (language : Language) where
  -- ---- steps

  -- a policy finds at most one thing with these params and this namespace, unless an allocation fails
  abbrev pub FindsOnce : FindsWith → Option json.Data → Option json.Data → Type 0
  FindsOnce finds params namespace = (a b : Result (List PolicyFinding) RunError) → a ≢ Err Memory → b ≢ Err Memory → finds params namespace a → finds params namespace b → a ≡ b

  -- a policy finds at most one thing at this step
  abbrev pub IsOnce : FindsWith → PlannedStep → Type 0
  IsOnce finds (plan.evaluates b params namespace) = FindsOnce finds params namespace
  IsOnce finds (plan.denies b t) = Unit {0}
  IsOnce finds plan.unknown_match = Unit {0}
  IsOnce finds (plan.is_blocked b) = Unit {0}
  IsOnce finds plan.ends = Unit {0}

  found_is_no_failure : (fs : List PolicyFinding) → ◌≢◌ {A = Result (List PolicyFinding) RunError} (Ok fs) (Err Memory)
  found_is_no_failure fs e = absurd (cc)

  refusal_is_no_failure : (e : RunError) (r : ClusterRefusal) → error_refusal e ≡ Some r → ◌≢◌ {A = Result (List PolicyFinding) RunError} (Err e) (Err Memory)
  refusal_is_no_failure e r is failed =
      let same : e ≡ Memory = cc in
      let none : None ≡ Some r = subst (λ (x : RunError). error_refusal x ≡ Some r) same is in absurd (cc)

  module _ (p : BoundPolicy) (finds : FindsWith) where
    found_once : (params namespace : Option json.Data) (fs gs : List PolicyFinding) → FindsOnce finds params namespace → finds params namespace (Ok fs)
        → finds params namespace (Ok gs) → fs ≡ gs
    found_once params namespace fs gs once a b =
        let both : ◌≡◌ {A = Result (List PolicyFinding) RunError} (Ok fs) (Ok gs) = once (Ok fs) (Ok gs) (found_is_no_failure fs) (found_is_no_failure gs) a b in cc

    found_or_refused : (params namespace : Option json.Data) (fs : List PolicyFinding) (e : RunError) (r : ClusterRefusal) → FindsOnce finds params namespace
        → finds params namespace (Ok fs) → finds params namespace (Err e) → error_refusal e ≡ Some r → ⊥
    found_or_refused params namespace fs e r once a b is =
        let both : ◌≡◌ {A = Result (List PolicyFinding) RunError} (Ok fs) (Err e) = once (Ok fs) (Err e) (found_is_no_failure fs) (refusal_is_no_failure e r is) a b in absurd (cc)

    refused_once : (params namespace : Option json.Data) (e f : RunError) (r s : ClusterRefusal) → FindsOnce finds params namespace → finds params namespace (Err e)
        → finds params namespace (Err f) → error_refusal e ≡ Some r → error_refusal f ≡ Some s → r ≡ s
    refused_once params namespace e f r s once a b is also =
        let both : ◌≡◌ {A = Result (List PolicyFinding) RunError} (Err e) (Err f) = once (Err e) (Err f) (refusal_is_no_failure e r is) (refusal_is_no_failure f s also) a b in
        let same : e ≡ f = cc in
        let some : Some r ≡ Some s = sym is ∙ (ap error_refusal same ∙ also) in cc

    -- the steps under a binding have one list of events, and end the dispatch always or never
    pub runs_once : (steps : List PlannedStep) (es fs : List Event) (x y : Bool) → All (IsOnce finds) steps → RunsSteps p finds steps es x → RunsSteps p finds steps fs y
        → (es ≡ fs) × (x ≡ y)
    runs_once _ _ _ _ _ all no_steps no_steps = (refl, refl)
    runs_once _ _ _ _ _ all (denied {binding = b} {message = t} {steps = steps} {es = es} {ended = x} r) (denied {es = fs} {ended = y} s) =
        let rest = runs_once steps es fs x y (All-tail (IsOnce finds) (plan.denies b t) steps all) r s in
        (ap (λ (l : List Event). configuration_event p.name b t ∷ l) rest.0, rest.1)
    runs_once _ _ _ _ _ all not_known not_known = (refl, refl)
    runs_once _ _ _ _ _ all blocked blocked = (refl, refl)
    runs_once _ _ _ _ _ all (found {b = b} {params = ps} {namespace = n} {fs = fs} {steps = steps} {es = es} {ended = x} f r) (found {fs = gs} {es = hs} {ended = y} g s) =
        let rest = runs_once steps es hs x y (All-tail (IsOnce finds) (plan.evaluates b ps n) steps all) r s in
        let same = found_once ps n fs gs (All-head (IsOnce finds) (plan.evaluates b ps n) steps all) f g in
        (ap (λ (l : List PolicyFinding). findings_events p.name b l ++ es) same ∙ ap (λ (l : List Event). findings_events p.name b gs ++ l) rest.0, rest.1)
    runs_once _ _ _ _ _ all (found {b = b} {params = ps} {namespace = n} {fs = fs} {steps = steps} f r) (refused {e = e} {r = why} g is) =
        absurd (found_or_refused ps n fs e why (All-head (IsOnce finds) (plan.evaluates b ps n) steps all) f g is)
    runs_once _ _ _ _ _ all (refused {b = b} {params = ps} {namespace = n} {e = e} {r = why} {steps = steps} g is) (found {fs = fs} f r) =
        absurd (found_or_refused ps n fs e why (All-head (IsOnce finds) (plan.evaluates b ps n) steps all) f g is)
    runs_once _ _ _ _ _ all (refused {b = b} {params = ps} {namespace = n} {e = e} {r = why} {steps = steps} g is) (refused {e = f} {r = other} h also) =
        (ap (λ (x : ClusterRefusal). undecided_event p x ∷ []) (refused_once ps n e f why other (All-head (IsOnce finds) (plan.evaluates b ps n) steps all) g h is also), refl)
    runs_once _ _ _ _ _ all at_end at_end = (refl, refl)

    -- so have those of all bindings
    pub bindings_once : (all : List (List PlannedStep)) (es fs : List Event) (x y : Bool) → All (All (IsOnce finds)) all → RunsBindings p finds all es x → RunsBindings p finds all fs y
        → (es ≡ fs) × (x ≡ y)
    bindings_once _ _ _ _ _ each no_bindings no_bindings = (refl, refl)
    bindings_once _ _ _ _ _ each (next_binding {steps = steps} {others = others} {es = es} {more = more} {ended = x} r rest) (next_binding {es = fs} {more = other} {ended = y} s left) =
        let first = runs_once steps es fs false false (All-head (All (IsOnce finds)) steps others each) r s in
        let after = bindings_once others more other x y (All-tail (All (IsOnce finds)) steps others each) rest left in
        (ap (λ (l : List Event). l ++ more) first.0 ∙ ap (λ (l : List Event). fs ++ l) after.0, after.1)
    bindings_once _ _ _ _ _ each (next_binding {steps = steps} {others = others} {es = es} r rest) (last_binding {es = fs} s) =
        let both = (runs_once steps es fs false true (All-head (All (IsOnce finds)) steps others each) r s).1 in absurd (cc)
    bindings_once _ _ _ _ _ each (last_binding {steps = steps} {others = others} {es = es} r) (next_binding {es = fs} s left) =
        let both = (runs_once steps es fs true false (All-head (All (IsOnce finds)) steps others each) r s).1 in absurd (cc)
    bindings_once _ _ _ _ _ each (last_binding {steps = steps} {others = others} {es = es} r) (last_binding {es = fs} s) =
        ((runs_once steps es fs true true (All-head (All (IsOnce finds)) steps others each) r s).0, refl)

  -- ---- evaluations

  module _ (compiles : CompileHasOneResult) (findings : FindingsHaveOneResult) (review : List ℕ) (limits : Limits) where
    evaluates_once : (p : BoundPolicy) (params namespace : Option json.Data) → IsShallow p.document → IsShallowIf params → IsShallowIf namespace
        → FindsOnce (EvaluatesPolicy language OneImage review limits p) params namespace
    evaluates_once p params namespace deep its own a b some other x y =
        let same : SameReading y.documents x.documents = record {
          language = y.language ∙ sym x.language;
          policy = same_text (compiled_document p.document) y.documents.policy x.documents.policy (compiled_shallow p.document deep) y.policy x.policy;
          values = same_contents y.documents.review x.documents.review y.documents.namespace x.documents.namespace y.documents.params x.documents.params
              (y.review_is ∙ sym x.review_is)
              (same_text_if namespace y.documents.namespace x.documents.namespace own y.namespace_text x.namespace_text)
              (same_text_if params y.documents.params x.documents.params its y.params_text x.params_text);
        } in
        findings x.documents limits a b some other (record { finds = x.finds; runs = x.runs }) (record {
          finds = findings_moved y.documents x.documents same limits b y.finds;
          runs = runs_moved y.documents x.documents same OneImage limits b y.runs;
        })

    once_at : (p : BoundPolicy) → IsShallow p.document → (step : PlannedStep) → IsShallowStep step → IsOnce (EvaluatesPolicy language OneImage review limits p) step
    once_at p deep (plan.evaluates b params namespace) is = evaluates_once p params namespace deep is.0 is.1
    once_at p deep (plan.denies b t) is = tt
    once_at p deep plan.unknown_match is = tt
    once_at p deep (plan.is_blocked b) is = tt
    once_at p deep plan.ends is = tt

    -- ---- policies

    module _ (s : ClusterState) (q : Request) (shallow : HasShallowDocuments s) where
      -- a policy has one list of events by its steps, for each way in which it may be blocked
      pub policy_once : (p : BoundPolicy) (steps : Option plan.PolicyBlock → List (List PlannedStep)) → ((block : Option plan.PolicyBlock) → AreShallow (steps block))
          → IsShallow p.document → (c d : Option BlockCause) (es fs : List Event) (x y : Bool) → IsJudged language s p c → IsJudged language s p d
          → RunsBindings p (EvaluatesPolicy language OneImage review limits p) (steps (option_map block_of c)) es x
          → RunsBindings p (EvaluatesPolicy language OneImage review limits p) (steps (option_map block_of d)) fs y → (es ≡ fs) × (x ≡ y)
      policy_once p steps deep_steps deep c d es fs x y judged other one two =
          let finds = EvaluatesPolicy language OneImage review limits p in
          bindings_once p finds (steps (option_map block_of c)) es fs x y
          (All-weaker (All IsShallowStep) (All (IsOnce finds)) (All-weaker IsShallowStep (IsOnce finds) (once_at p deep)) (steps (option_map block_of c)) (deep_steps (option_map block_of c)))
          one
          (subst (λ (k : Option plan.PolicyBlock). RunsBindings p finds (steps k) fs y) (judged_once language compiles p deep s d c other judged) two)

      asks_once : (p : BoundPolicy) (es fs : List Event) (x y : Bool) → IsShallow p.document → AsksPolicy language OneImage s review limits q p es x
          → AsksPolicy language OneImage s review limits q p fs y → (es ≡ fs) × (x ≡ y)
      asks_once p es fs x y deep a b =
          policy_once p (λ block. policy_steps s (asked_policy s p) block q) (steps_are_shallow s shallow.objects (asked_policy s p) q) deep a.cause b.cause es fs x y
          a.judged b.judged a.runs b.runs

      -- policies have one list of events
      pub dispatches_once : (ps : List BoundPolicy) (es fs : List Event) → All (λ (p : BoundPolicy). IsShallow p.document) ps → Dispatches language OneImage s review limits q ps es
          → Dispatches language OneImage s review limits q ps fs → es ≡ fs
      dispatches_once _ _ _ all no_policies no_policies = refl
      dispatches_once _ _ _ all (next {p = p} {ps = ps} {es = es} {more = more} a rest) (next {es = fs} {more = other} b left) =
          let deep = All-head (λ (r : BoundPolicy). IsShallow r.document) p ps all in
          let first = asks_once p es fs false false deep a b in
          let others = dispatches_once ps more other (All-tail (λ (r : BoundPolicy). IsShallow r.document) p ps all) rest left in
          ap (λ (l : List Event). l ++ more) first.0 ∙ ap (λ (l : List Event). fs ++ l) others
      dispatches_once _ _ _ all (next {p = p} {ps = ps} {es = es} a rest) (last {es = fs} b) =
          let both = (asks_once p es fs false true (All-head (λ (r : BoundPolicy). IsShallow r.document) p ps all) a b).1 in absurd (cc)
      dispatches_once _ _ _ all (last {p = p} {ps = ps} {es = es} a) (next {es = fs} b left) =
          let both = (asks_once p es fs true false (All-head (λ (r : BoundPolicy). IsShallow r.document) p ps all) a b).1 in absurd (cc)
      dispatches_once _ _ _ all (last {p = p} {ps = ps} {es = es} a) (last {es = fs} b) =
          (asks_once p es fs true true (All-head (λ (r : BoundPolicy). IsShallow r.document) p ps all) a b).0

    -- ---- answers

    pub asked_shallow : (s : ClusterState) (exempt : Bool) → HasShallowDocuments s → All (λ (p : BoundPolicy). IsShallow p.document) (if exempt then [] else s.policies)
    asked_shallow s true shallow = All-nil (λ (p : BoundPolicy). IsShallow p.document)
    asked_shallow s false shallow = shallow.policies

    decides_once : (s : ClusterState) (a b : Option (List ℕ)) → HasShallowDocuments s → DecidesInCluster language OneImage s review limits a → DecidesInCluster language OneImage s review limits b
        → a ≡ b
    decides_once s _ _ shallow (no_review none) (no_review other) = refl
    decides_once s _ _ shallow (no_review none) (decided given dispatches) = let both = sym none ∙ given in absurd (cc)
    decides_once s _ _ shallow (decided given dispatches) (no_review none) = let both = sym none ∙ given in absurd (cc)
    decides_once s _ _ shallow (decided {q = q} {es = es} given first) (decided {q = r} {es = fs} also second) =
        let both : Some q ≡ Some r = sym given ∙ also in
        let same : r ≡ q = cc in
        let moved = subst (λ (x : Request). Dispatches language OneImage s review limits x (policies_asked s x) fs) same second in
        let events = dispatches_once s q shallow (policies_asked s q) es fs (asked_shallow s (is_exempt q.attributes.resource) shallow) first moved in
        ap (λ (l : List Event). Some (cluster_response q (uid_in review) l)) events ∙ ap (λ (x : Request). Some (cluster_response x (uid_in review) fs)) (sym same)

pub one_answer : CompileHasOneResult → FindingsHaveOneResult → ReviewsHaveOneAnswer
one_answer compiles findings language s review limits a b shallow first second = decides_once language compiles findings review limits s a b shallow first second
