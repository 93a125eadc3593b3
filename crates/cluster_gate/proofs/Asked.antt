-- A policy that is asked about a request.
use Rattle.cluster_gate.proofs.Prelude.{◌≡◌, ◌∙◌, ℕ, List, [], ◌∷◌, Bool, true, false, Option, Some, None, ap, option_map, subst, Adds, AddsMatched, AddsPolicy, AddsTrouble, BoundPolicy, ClusterState, CodeEvents, Event, IsGateFor, IsJudged, OneImage, PolicyGate, PlannedStep, Request, RunsBindings, bindings_steps, asked_policy, block_of, policy_view}
use Rattle.admission_match.specs.Matching.{match_answer}
use Rattle.admission_match.specs.declared.answer.Answer.{Answer}
use Rattle.admission_match.specs.declared.answer.Answer.TheVariants as matching
use Rattle.admission_match.specs.declared.trouble.Trouble.{Trouble}
use Rattle.admission.specs.GatePolicies.{GatePolicy}
use Rattle.cluster_state.specs.Params.{namespace_labels}
use Rattle.cluster_plan.specs.Steps as plan
use Rattle.cluster_plan.specs.Steps.{AskedPolicy, error_steps, fails_closed, policy_answered, trouble_text}
use Rattle.cluster_response.specs.declared.cluster_refusal.ClusterRefusal.TheVariants as refusal
use Rattle.cluster_gate.proofs.Runs.{adds_none}
use Rattle.cluster_gate.specs.Dispatch.{EvaluatesPolicy, FindsWith, no_steps, denied, not_known, blocked, undecided_event, block_refusal, no_bindings, next_binding}
use Rattle.cluster_gate.specs.Gates.{IsAskedGate, IsGateOfText, IsBlockedBy, IsCompiledPolicy, StandsAs}
use Rattle.policy_glue.specs.Naming.{conditions_name_namespace}
use Rattle.cluster_gate.specs.Running.{error_events}
use Rattle.cluster_gate.specs.declared.block_cause.BlockCause.{BlockCause}
use Rattle.cluster_gate.specs.declared.standing.Standing.{Standing}
use Rattle.cluster_gate.specs.declared.standing.Standing.TheVariants.{Asked, Blocked}
use Rattle.admission.specs.declared.language.Language.{Language}
use Rattle.admission.specs.declared.limits.Limits.{Limits}

-- The policies are read in this language.
module _ (language : Language) where
  -- a gate's policy is compiled
  pub compiled_with : (p : BoundPolicy) (gate : GatePolicy) (names : Bool) (of : IsGateOfText language p gate) → conditions_name_namespace of.of_policy.1.trees ≡ names
      → IsCompiledPolicy language p names
  compiled_with p gate names of naming = record {
    text = of.text;
    has_text = of.has_text;
    is_policy = record { told = gate.told; parsed = gate.policy; wrapped = gate.wrapped; is_said = of.of_policy.0; trees = of.of_policy.1.trees; compiles = of.of_policy.1.compiles };
    naming = naming;
  }

  pub compiled_of : (p : BoundPolicy) (gate : GatePolicy) → IsAskedGate language p gate → IsCompiledPolicy language p false
  compiled_of p gate asked = compiled_with p gate false asked.gate_of asked.naming

  -- what blocks the policy, or that nothing blocks it
  pub judged_of : (s : ClusterState) (p : BoundPolicy) (t : Standing) → StandsAs language s p t → (cause : Option BlockCause) × IsJudged language s p cause
  judged_of s p (Asked gate) stands = (None, (compiled_of p gate stands.0, stands.1))
  judged_of s p (Blocked cause) stands = (Some cause, stands)

  -- the policy of a gate
  pub policy_of : (s : ClusterState) (p : BoundPolicy) (g : PolicyGate) → IsGateFor language s p g → policy_view g.asked.policy.now ≡ p
  policy_of s p g is = ap (λ (a : AskedPolicy). a.policy) is.asked

  module _ (s : ClusterState) (review : List ℕ) (limits : Limits) (q : Request) (p : BoundPolicy) (before after : CodeEvents) where
    -- the events of a policy, by whether its constraints match
    pub asks_by : (answer : Answer) (es : List Event) (ended : Bool) (t : Standing) → StandsAs language s p t
        → answer ≡ match_answer p.constraints (namespace_labels s.objects) q.attributes → Adds before after es
        → ((block : Option plan.PolicyBlock) → RunsBindings p (EvaluatesPolicy language OneImage review limits p) (policy_answered s (asked_policy s p) block q answer) es ended)
        → AddsPolicy language OneImage s review limits q p before after ended
    asks_by answer es ended t stands is adds runs =
        let j = judged_of s p t stands in (
          es,
          adds,
          record {
            cause = j.0;
            judged = j.1;
            runs = subst (λ (a : Answer). RunsBindings p (EvaluatesPolicy language OneImage review limits p) (policy_answered s (asked_policy s p) (option_map block_of j.0) q a) es ended) is (runs (option_map block_of j.0));
          },
        )

    -- they match
    pub asks_matched : (ended : Bool) → matching.Yes ≡ match_answer p.constraints (namespace_labels s.objects) q.attributes
        → AddsMatched language OneImage s review limits q p before after ended → AddsPolicy language OneImage s review limits q p before after ended
    asks_matched ended is (es, adds, cause, judged, runs) = (
      es,
      adds,
      record {
        cause = cause;
        judged = judged;
        runs = subst (λ (a : Answer). RunsBindings p (EvaluatesPolicy language OneImage review limits p) (policy_answered s (asked_policy s p) (option_map block_of cause) q a) es ended) is runs;
      },
    )

    trouble_runs : (fails : Bool) (message : List ℕ) (finds : FindsWith)
        → RunsBindings p finds (error_steps fails None message ∷ []) (error_events fails p.name message) false
    trouble_runs true message finds = next_binding (denied no_steps) no_bindings
    trouble_runs false message finds = next_binding no_steps no_bindings

    -- the labels of the namespace are not known
    pub asks_in_trouble : (trouble : Trouble) (t : Standing) → StandsAs language s p t
        → matching.Trouble trouble ≡ match_answer p.constraints (namespace_labels s.objects) q.attributes → AddsTrouble p q trouble before after
        → AddsPolicy language OneImage s review limits q p before after false
    asks_in_trouble trouble t stands is adds =
        asks_by (matching.Trouble trouble) (error_events (fails_closed p.document) p.name (trouble_text trouble q.attributes.namespace)) false t stands is adds
        (λ block. trouble_runs (fails_closed p.document) (trouble_text trouble q.attributes.namespace) (EvaluatesPolicy language OneImage review limits p))

    -- the event of an unknown match
    pub asks_unknown : (asked : BoundPolicy) (t : Standing) → StandsAs language s p t → asked ≡ p
        → matching.Unknown ≡ match_answer p.constraints (namespace_labels s.objects) q.attributes
        → Adds before after (undecided_event asked refusal.UnknownMatch ∷ []) → AddsPolicy language OneImage s review limits q p before after false
    asks_unknown asked t stands same is adds =
        asks_by matching.Unknown (undecided_event p refusal.UnknownMatch ∷ []) false t stands is
        (subst (λ (x : BoundPolicy). Adds before after (undecided_event x refusal.UnknownMatch ∷ [])) same adds) (λ block. next_binding not_known no_bindings)

    -- a policy that is blocked
    pub matched_blocked : (asked : BoundPolicy) (cause : BlockCause) → IsBlockedBy language s p cause → asked ≡ p
        → Adds before after (undecided_event asked (block_refusal (block_of cause)) ∷ []) → AddsMatched language OneImage s review limits q p before after false
    matched_blocked asked cause stands same adds = (
      undecided_event p (block_refusal (block_of cause)) ∷ [],
      subst (λ (x : BoundPolicy). Adds before after (undecided_event x (block_refusal (block_of cause)) ∷ [])) same adds,
      Some cause,
      stands,
      next_binding blocked no_bindings,
    )

    -- a policy that is compiled
    pub matched_asked : (ended : Bool) (gate : GatePolicy) → StandsAs language s p (Asked gate)
        → ((more : List Event) × Adds before after more
        × RunsBindings p (EvaluatesPolicy language OneImage review limits p) (bindings_steps s (asked_policy s p) q s.bindings) more ended)
        → AddsMatched language OneImage s review limits q p before after ended
    matched_asked ended gate stands (es, adds, runs) = (es, adds, None, (compiled_of p gate stands.0, stands.1), runs)

  -- the constraints do not match
  pub asks_no : (s : ClusterState) (review : List ℕ) (limits : Limits) (q : Request) (p : BoundPolicy) (e : CodeEvents) (t : Standing) → StandsAs language s p t
      → matching.No ≡ match_answer p.constraints (namespace_labels s.objects) q.attributes → AddsPolicy language OneImage s review limits q p e e false
  asks_no s review limits q p e t stands is = asks_by s review limits q p e e matching.No [] false t stands is (adds_none language e) (λ block. no_bindings)

  -- ---- the code's

  -- the steps of bindings under the policy and the state that the code has
  pub bound_steps : (s t : ClusterState) (a b : AskedPolicy) (q : Request) (steps : List (List PlannedStep)) → t ≡ s → a ≡ b → steps ≡ bindings_steps t a q t.bindings
      → steps ≡ bindings_steps s b q s.bindings
  bound_steps s t a b q steps state asked is =
      let same : bindings_steps t a q t.bindings ≡ bindings_steps s b q s.bindings = λ i. bindings_steps (state i) (asked i) q (state i).bindings in is ∙ same

  -- whether they match
  pub same_answer : (s t : ClusterState) (x p : BoundPolicy) (q : Request) (answer : Answer) → t ≡ s → x ≡ p
      → answer ≡ match_answer x.constraints (namespace_labels t.objects) q.attributes → answer ≡ match_answer p.constraints (namespace_labels s.objects) q.attributes
  same_answer s t x p q answer state policy is =
      let same : match_answer x.constraints (namespace_labels t.objects) q.attributes ≡ match_answer p.constraints (namespace_labels s.objects) q.attributes =
      λ i. match_answer (policy i).constraints (namespace_labels (state i).objects) q.attributes in
      is ∙ same
