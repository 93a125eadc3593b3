-- If each policy decides, servers that know other resources have the same events.
use Rattle.cluster_gate.proofs.Prelude.{◌≡◌, ◌∙◌, ◌∷◌, ◌++◌, ℕ, List, [], Bool, true, false, Option, Some, None, ap, map, option_map, refl, subst, sym, BoundPolicy, ClusterState, Dispatches, Event, OneImage, PlannedStep, Request, RunsBindings, RunsSteps, asked_policy, block_of, policies_asked}
use Rattle.std.proofs.lemmas.List.Folds.{list_any-append}
use Rattle.std.specs.List.{All, list_any}
use Rattle.std.proofs.Common.{◌⊎◌, inl, inr}
use Rattle.std.specs.Prelude.{◌≢◌}
use Rattle.admission_match.specs.Laws.{EveryServerAgrees}
use Rattle.admission_match.specs.Matching.{match_answer}
use Rattle.admission_match.specs.Requests.{GroupVersionResource}
use Rattle.admission_match.specs.Rules.{is_candidate}
use Rattle.admission_match.specs.declared.answer.Answer.{Answer}
use Rattle.admission_match.specs.declared.answer.Answer.TheVariants as matching
use Rattle.cluster_state.specs.Bindings.{Binding}
use Rattle.cluster_state.specs.Params.{namespace_labels}
use Rattle.cluster_plan.specs.Steps as plan
use Rattle.cluster_plan.specs.Steps.{AskedPolicy, PolicyBlock, binding_answered, binding_steps, bindings_of, policy_answered, policy_steps}
use Rattle.cluster_response.specs.Laws.{is_refusal}
use Rattle.std.proofs.lemmas.Bool.{or_parts}
use Rattle.cluster_gate.specs.Dispatch as dispatch
use Rattle.cluster_gate.specs.Dispatch.{EvaluatesPolicy, FindsWith, not_known, next_binding, last_binding}
use Rattle.cluster_gate.specs.Servers.{ServerDispatches, ServersHaveAnswers, answered_steps_by, binding_steps_by, no_policies, next, last, policy_steps_by, server_answers}
use Rattle.admission.specs.declared.language.Language.{Language}
use Rattle.admission.specs.declared.limits.Limits.{Limits}

-- The policies are read in this language.
module _ (language : Language) where
  -- each policy decides
  abbrev Decide : List Event → Type 0
  Decide es = list_any is_refusal es ≡ false

  decide_parts : (xs ys : List Event) → Decide (xs ++ ys) → Decide xs × Decide ys
  decide_parts xs ys none = or_parts (list_any is_refusal xs) (list_any is_refusal ys) (sym (list_any-append is_refusal xs ys) ∙ none)

  -- ---- bindings

  module _ (p : BoundPolicy) (finds : FindsWith) where
    -- an unknown match refuses
    unknown_refuses : (es : List Event) (ended : Bool) → RunsSteps p finds (plan.unknown_match ∷ []) es ended → Decide es → ⊥
    unknown_refuses _ _ not_known on = cc

    pub alone_refuses : (es : List Event) (ended : Bool) → RunsBindings p finds ((plan.unknown_match ∷ []) ∷ []) es ended → Decide es → ⊥
    alone_refuses _ _ (next_binding {es = es} {more = more} r rest) on = unknown_refuses es false r (decide_parts es more on).0
    alone_refuses _ _ (last_binding {es = es} r) on = unknown_refuses es true r on

    module _ (f g : Binding → List PlannedStep) (same : (b : Binding) → (f b ≡ plan.unknown_match ∷ []) ⊎ (g b ≡ f b)) where
      at_binding : (b : Binding) → (f b ≡ plan.unknown_match ∷ []) ⊎ (g b ≡ f b) → (es : List Event) (ended : Bool) → Decide es → RunsSteps p finds (f b) es ended
          → RunsSteps p finds (g b) es ended
      at_binding b (inl is) es ended on r = absurd (unknown_refuses es ended (subst (λ (l : List PlannedStep). RunsSteps p finds l es ended) is r) on)
      at_binding b (inr is) es ended on r = subst (λ (l : List PlannedStep). RunsSteps p finds l es ended) (sym is) r

      pub each_binding : (bs : List Binding) (es : List Event) (ended : Bool) → Decide es → RunsBindings p finds (map f bs) es ended → RunsBindings p finds (map g bs) es ended
      each_binding [] es ended on r = r
      each_binding (b ∷ bs) _ ended on (next_binding {es = es} {more = more} r rest) =
          let parts = decide_parts es more on in
          next_binding (at_binding b (same b) es false parts.0 r) (each_binding bs more ended parts.1 rest)
      each_binding (b ∷ bs) _ _ on (last_binding {es = es} r) = last_binding (at_binding b (same b) es true on r)

  -- ---- policies

  is_known : (x : Answer) → (x ≡ matching.Unknown) ⊎ (x ≢ matching.Unknown)
  is_known matching.No = inr (λ e. cc)
  is_known matching.Yes = inr (λ e. cc)
  is_known matching.Unknown = inl refl
  is_known (matching.Trouble t) = inr (λ e. cc)

  module _ (agrees : EveryServerAgrees) (served : List GroupVersionResource) (s : ClusterState) (q : Request)
      (all : All (λ c. is_candidate q.attributes.resource c ≡ true) served) (a : AskedPolicy) where
    same_binding : (b : Binding) → (binding_steps s a q b ≡ plan.unknown_match ∷ []) ⊎ (binding_steps_by (server_answers served s q) s a q b ≡ binding_steps s a q b)
    same_binding b = elim (is_known (match_answer b.resources (namespace_labels s.objects) q.attributes)) [
      | inl is ↦ inl (ap (binding_answered s a q b) is)
      | inr known ↦ inr (ap (binding_answered s a q b) (agrees served b.resources (namespace_labels s.objects) q.attributes all known))
    ]

    module _ (p : BoundPolicy) (finds : FindsWith) where
      by_answer : (block : Option PolicyBlock) (x : Answer) (es : List Event) (ended : Bool) → Decide es → RunsBindings p finds (policy_answered s a block q x) es ended
          → RunsBindings p finds (answered_steps_by (server_answers served s q) s a block q x) es ended
      by_answer block matching.No es ended on r = r
      by_answer block matching.Unknown es ended on r = r
      by_answer block (matching.Trouble t) es ended on r = r
      by_answer (Some b) matching.Yes es ended on r = r
      by_answer None matching.Yes es ended on r =
          each_binding p finds (binding_steps s a q) (binding_steps_by (server_answers served s q) s a q) same_binding (bindings_of a.policy.name s.bindings) es ended on r

      by_match : (block : Option PolicyBlock) (x : Answer) → match_answer a.policy.constraints (namespace_labels s.objects) q.attributes ≡ x
          → (x ≡ matching.Unknown) ⊎ (x ≢ matching.Unknown) → (es : List Event) (ended : Bool) → Decide es
          → RunsBindings p finds (policy_answered s a block q x) es ended → RunsBindings p finds (policy_steps_by (server_answers served s q) s a block q) es ended
      by_match block x is (inl unknown) es ended on r =
          absurd (alone_refuses p finds es ended (subst (λ (y : Answer). RunsBindings p finds (policy_answered s a block q y) es ended) unknown r) on)
      by_match block x is (inr known) es ended on r =
          let same = agrees served a.policy.constraints (namespace_labels s.objects) q.attributes all (λ e. known (sym is ∙ e)) in
          subst (λ (y : Answer). RunsBindings p finds (answered_steps_by (server_answers served s q) s a block q y) es ended) (sym (same ∙ is))
          (by_answer block x es ended on r)

      -- the policy has the same events on the server
      pub served_runs : (block : Option PolicyBlock) (es : List Event) (ended : Bool) → Decide es → RunsBindings p finds (policy_steps s a block q) es ended
          → RunsBindings p finds (policy_steps_by (server_answers served s q) s a block q) es ended
      served_runs block es ended on r =
          let x = match_answer a.policy.constraints (namespace_labels s.objects) q.attributes in by_match block x refl (is_known x) es ended on r

  -- ---- the dispatch

  pub served_dispatch : EveryServerAgrees → (served : List GroupVersionResource) (s : ClusterState) (review : List ℕ) (limits : Limits) (q : Request)
      → All (λ c. is_candidate q.attributes.resource c ≡ true) served → (ps : List BoundPolicy) (es : List Event) → Decide es
      → Dispatches language OneImage s review limits q ps es → ServerDispatches language served OneImage s review limits q ps es
  served_dispatch agrees served s review limits q all _ _ on dispatch.no_policies = no_policies
  served_dispatch agrees served s review limits q all _ _ on (dispatch.next {p = p} {ps = ps} {es = es} {more = more} a rest) =
      let parts = decide_parts es more on in
      next (record {
        cause = a.cause;
        judged = a.judged;
        runs = served_runs agrees served s q all (asked_policy s p) p (EvaluatesPolicy language OneImage review limits p) (option_map block_of a.cause) es false parts.0 a.runs;
      }) (served_dispatch agrees served s review limits q all ps more parts.1 rest)
  served_dispatch agrees served s review limits q all _ _ on (dispatch.last {p = p} {ps = ps} {es = es} a) =
      last (record {
        cause = a.cause;
        judged = a.judged;
        runs = served_runs agrees served s q all (asked_policy s p) p (EvaluatesPolicy language OneImage review limits p) (option_map block_of a.cause) es true on a.runs;
      })

pub servers_have_answers : EveryServerAgrees → ServersHaveAnswers
servers_have_answers agrees language served s review limits q es all on dispatches = served_dispatch language agrees served s review limits q all (policies_asked s q) es on dispatches
