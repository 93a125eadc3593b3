-- What a cluster decides in another order of its policies and bindings.
use Rattle.cluster_gate.proofs.Prelude.{◌≡◌, ◌∙◌, ℕ, List, [], Bool, true, false, Option, Some, None, ap, map, option_map, refl, subst, sym, BoundPolicy, ClusterState, Dispatches, Event, IsJudged, OneImage, PlannedStep, Request, asked_policy, bindings_steps, block_of, policies_asked}
use Rattle.std.proofs.lemmas.List.Sorted.{All-permutation}
use Rattle.std.specs.List.{All}
use Rattle.std.specs.Prelude.{bytes_eq, if◌then◌else◌, is_none, is_some, option_and_then, ◌&&◌}
use Rattle.serde_json.specs.Data as json
use Rattle.admission_match.specs.Matching.{match_answer}
use Rattle.admission_match.specs.Requests.{is_exempt}
use Rattle.admission_match.specs.declared.answer.Answer.{Answer}
use Rattle.admission_match.specs.declared.answer.Answer.TheVariants as matching
use Rattle.cluster_state.specs.Bindings.{Binding}
use Rattle.cluster_state.specs.Objects.{Named, Objects}
use Rattle.cluster_state.specs.Params.{KnownKind, known_kind, namespace_labels}
use Rattle.cluster_state.specs.Policies.{ParamKind}
use Rattle.cluster_plan.specs.Steps.{PolicyBlock, binding_steps, bindings_of, policy_answered}
use Rattle.cluster_gate.proofs.Each.{Each, as_it_is, back, each_reordered, each_through, filtered, of_map, to_map, to_permutation}
use Rattle.cluster_gate.proofs.ToldSteps.{BindingTells, GoesOn, PolicyTells, all_dispatched, told_dispatched}
use Rattle.cluster_gate.specs.Dispatch.{EvaluatesPolicy}
use Rattle.cluster_gate.specs.Gates.{kind_of, lacks_kind}
use Rattle.cluster_gate.specs.Laws.{HasShallowDocuments, IsShallow}
use Rattle.cluster_gate.specs.Orders.{DifferInOrder, InAnyOrder, none, through}
use Rattle.cluster_gate.specs.declared.block_cause.BlockCause.{BlockCause}
use Rattle.cluster_gate.specs.declared.block_cause.BlockCause.TheVariants.{Refused, RefusedWide, NamesNamespace, UnknownParamKind}
use Rattle.admission.specs.declared.language.Language.{Language}
use Rattle.admission.specs.declared.limits.Limits.{Limits}

-- The policies are read in this language.
module _ (language : Language) where
  pub differ_back : (s t : ClusterState) → DifferInOrder s t → DifferInOrder t s
  differ_back s t differ = record {
    policies = back s.policies t.policies differ.policies;
    bindings = back s.bindings t.bindings differ.bindings;
    objects = λ c. sym (differ.objects c);
    kinds = λ k. sym (differ.kinds k);
  }

  module _ (s t : ClusterState) (differ : DifferInOrder s t) (review : List ℕ) (limits : Limits) (q : Request) where
    -- ---- what the order leaves

    same_objects : t.objects ≡ s.objects
    same_objects i c = differ.objects c i

    kinds_alike : (k : Option ParamKind) → option_and_then (λ x. known_kind x t.items t.objects) k ≡ option_and_then (λ x. known_kind x s.items s.objects) k
    kinds_alike None = refl
    kinds_alike (Some k) = differ.kinds k

    same_kind : (p : BoundPolicy) → kind_of t p ≡ kind_of s p
    same_kind p = kinds_alike p.param_kind

    same_lack : (p : BoundPolicy) → lacks_kind t p ≡ lacks_kind s p
    same_lack p = ap (λ (k : Option KnownKind). is_some p.param_kind && is_none k) (same_kind p)

    judged_alike : (p : BoundPolicy) (cause : Option BlockCause) → IsJudged language s p cause → IsJudged language t p cause
    judged_alike p None a = (a.0, same_lack p ∙ a.1)
    judged_alike p (Some (Refused e)) a = a
    judged_alike p (Some (RefusedWide e)) a = a
    judged_alike p (Some NamesNamespace) a = a
    judged_alike p (Some UnknownParamKind) a = (a.0, same_lack p ∙ a.1)

    -- the state with the bindings of one state and everything else of the other
    abbrev with_objects : Objects → Option KnownKind → BoundPolicy → Binding → List PlannedStep
    with_objects objects kind p b =
        binding_steps (record { items = s.items; objects = objects; bindings = s.bindings; policies = s.policies }) (record { policy = p; kind = kind }) q b

    same_steps : (p : BoundPolicy) → binding_steps t (asked_policy t p) q ≡ binding_steps s (asked_policy s p) q
    same_steps p =
        ap {B = Binding → List PlannedStep} (λ (o : Objects). λ (b : Binding). with_objects o (kind_of t p) p b) same_objects
        ∙ ap {B = Binding → List PlannedStep} (λ (k : Option KnownKind). λ (b : Binding). with_objects s.objects k p b) (same_kind p)

    same_answer : (p : BoundPolicy) → match_answer p.constraints (namespace_labels t.objects) q.attributes ≡ match_answer p.constraints (namespace_labels s.objects) q.attributes
    same_answer p = ap (λ (o : Objects). match_answer p.constraints (namespace_labels o) q.attributes) same_objects

    -- ---- one policy

    module _ (p : BoundPolicy) where
      abbrev Tells : List (List PlannedStep) → List Event → Type 0
      Tells = Each (BindingTells language p (EvaluatesPolicy language OneImage review limits p))

      bindings_alike : (es : List Event) → Tells (bindings_steps s (asked_policy s p) q s.bindings) es
          → (fs : List Event) × Tells (bindings_steps t (asked_policy t p) q t.bindings) fs × InAnyOrder es fs
      bindings_alike es told =
          let steps = binding_steps s (asked_policy s p) q in
          let each = of_map (BindingTells language p (EvaluatesPolicy language OneImage review limits p)) steps (bindings_of p.name s.bindings) es told in
          let order = filtered (λ (b : Binding). bytes_eq b.policy_name p.name) s.bindings t.bindings differ.bindings in
          let other = each_reordered (λ (b : Binding) (l : List Event). BindingTells language p (EvaluatesPolicy language OneImage review limits p) (steps b) l) (bindings_of p.name s.bindings) (bindings_of p.name t.bindings) es order each in (
            other.now,
            subst (λ (f : Binding → List PlannedStep). Tells (map f (bindings_of p.name t.bindings)) other.now) (sym (same_steps p))
                (to_map (BindingTells language p (EvaluatesPolicy language OneImage review limits p)) steps (bindings_of p.name t.bindings) other.now other.each),
            other.same,
          )

      by_answer : (block : Option PolicyBlock) (answer : Answer) (es : List Event) → Tells (policy_answered s (asked_policy s p) block q answer) es
          → (fs : List Event) × Tells (policy_answered t (asked_policy t p) block q answer) fs × InAnyOrder es fs
      by_answer block matching.No es told = (es, told, as_it_is es)
      by_answer block matching.Unknown es told = (es, told, as_it_is es)
      by_answer block (matching.Trouble x) es told = (es, told, as_it_is es)
      by_answer (Some b) matching.Yes es told = (es, told, as_it_is es)
      by_answer None matching.Yes es told = bindings_alike es told

    policy_alike : (p : BoundPolicy) (es : List Event) → PolicyTells language s review limits q p es → (fs : List Event) × PolicyTells language t review limits q p fs × InAnyOrder es fs
    policy_alike p es (cause, judged, told) =
        let other = by_answer p (option_map block_of cause) (match_answer p.constraints (namespace_labels s.objects) q.attributes) es told in (
          other.0,
          (
            cause,
            judged_alike p cause judged,
            subst (λ (a : Answer). Tells p (policy_answered t (asked_policy t p) (option_map block_of cause) q a) other.0) (sym (same_answer p)) other.1,
          ),
          other.2,
        )

    -- ---- the dispatch

    policies_alike : (exempt : Bool) → InAnyOrder (if exempt then [] else s.policies) (if exempt then [] else t.policies)
    policies_alike true = none
    policies_alike false = differ.policies

    -- if the dispatch does not end, it has the same events in the other order
    pub other_events : (es : List Event) → Dispatches language OneImage s review limits q (policies_asked s q) es → GoesOn language es
        → (fs : List Event) × Dispatches language OneImage t review limits q (policies_asked t q) fs × InAnyOrder es fs
    other_events es dispatches on =
        let told = all_dispatched language s review limits q (policies_asked s q) es dispatches on in
        let alike = each_through (PolicyTells language s review limits q) (PolicyTells language t review limits q) policy_alike (policies_asked s q) es told in
        let other = each_reordered (PolicyTells language t review limits q) (policies_asked s q) (policies_asked t q) alike.now (policies_alike (is_exempt q.attributes.resource)) alike.each in
        (other.now, told_dispatched language t review limits q (policies_asked t q) other.now other.each, through alike.same other.same)

    -- ---- documents

    pub also_shallow : HasShallowDocuments s → HasShallowDocuments t
    also_shallow shallow = record {
      policies = All-permutation (λ (p : BoundPolicy). IsShallow p.document) s.policies t.policies (to_permutation s.policies t.policies differ.policies) shallow.policies;
      objects = λ c. subst (λ (os : Named). All (λ (o : List ℕ × json.Data). IsShallow o.1) os) (sym (differ.objects c)) (shallow.objects c);
    }
