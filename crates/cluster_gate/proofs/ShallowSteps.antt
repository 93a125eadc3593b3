-- The params and the namespace of each evaluation are documents of the state.
use Rattle.cluster_gate.specs.Servers.{MatchAnswers, answered_steps_by, binding_steps_by, block_steps_by, policy_steps_by}
use Rattle.cluster_gate.proofs.Prelude.{◌∷◌, ℕ, List, [], Bool, true, false, Option, Some, None, Result, Ok, Err, map, ClusterState, PlannedStep, Request, by_block, policy_steps}
use Rattle.std.proofs.lemmas.List.Elements.{All-cons, All-filter, All-head, All-map, All-nil, All-tail, All-weaker}
use Rattle.std.specs.List.{All, filter}
use Rattle.std.specs.Option.{option_to_list}
use Rattle.std.specs.Prelude.{◌==◌, ◌&&◌, ◌||◌, bytes_eq, cond, length, if◌then◌else◌}
use Rattle.serde_json.specs.Data as json
use Rattle.label_selectors.specs.Selectors.{selects}
use Rattle.admission_documents.specs.Requests.{is_core_namespace}
use Rattle.admission_documents.specs.Selectors.{labels_in}
use Rattle.admission_match.specs.Matching.{match_answer}
use Rattle.admission_match.specs.declared.answer.Answer.{Answer}
use Rattle.admission_match.specs.declared.answer.Answer.TheVariants as matching
use Rattle.admission_match.specs.declared.trouble.Trouble.{Trouble}
use Rattle.cluster_state.specs.Bindings.{Binding, ParamChoice, ParamRef, by_labels, by_name}
use Rattle.cluster_state.specs.Items.{Collection}
use Rattle.cluster_state.specs.Objects.{Named, object_named}
use Rattle.cluster_state.specs.Params.{KnownKind, NamespaceObject, chosen, has_needless_namespace, if_found, lacks_namespace, missing, namespace_object, namespace_labels, namespace_named, no_object, object, object_or_missing, param_error_text, params_place}
use Rattle.cluster_state.specs.State.{namespaces}
use Rattle.cluster_state.specs.declared.param_error.ParamError.{ParamError, TheVariants.ClusterScopedRequest, TheVariants.NeedlessNamespace, TheVariants.NotFound}
use Rattle.cluster_plan.specs.Steps as plan
use Rattle.cluster_plan.specs.Steps.{AskedPolicy, PolicyBlock, binding_answered, binding_steps, bindings_of, error_steps, evaluations, fails_closed, found_params, params_for, params_steps, policy_answered, trouble_text}
use Rattle.cluster_gate.proofs.SameReading.{IsShallowIf}
use Rattle.cluster_gate.specs.Laws.{IsShallow}

-- an evaluation has such params and such a namespace
abbrev pub IsShallowStep : PlannedStep → Type 0
IsShallowStep (plan.evaluates b params namespace) = IsShallowIf params × IsShallowIf namespace
IsShallowStep (plan.denies b t) = Unit {0}
IsShallowStep plan.unknown_match = Unit {0}
IsShallowStep (plan.is_blocked b) = Unit {0}
IsShallowStep plan.ends = Unit {0}

abbrev Shallow : Named → Type 0
Shallow os = All (λ (o : List ℕ × json.Data). IsShallow o.1) os

abbrev pub IsShallowNamespace : NamespaceObject → Type 0
IsShallowNamespace no_object = Unit {0}
IsShallowNamespace (object d) = IsShallow d
IsShallowNamespace missing = Unit {0}

abbrev AreShallowParams : Result (List (Option json.Data)) ParamError → Type 0
AreShallowParams (Ok ps) = All IsShallowIf ps
AreShallowParams (Err e) = Unit {0}

-- ---- objects

picked : (b : Bool) (d : json.Data) (o : Option json.Data) → IsShallow d → IsShallowIf o → IsShallowIf (cond b (Some d) o)
picked true d o is other = is
picked false d o is other = other

found : (name : List ℕ) (os : Named) → Shallow os → IsShallowIf (object_named name os)
found name [] all = tt
found name (o ∷ os) all =
    picked (bytes_eq name o.0) o.1 (object_named name os) (All-head (λ (e : List ℕ × json.Data). IsShallow e.1) o os all)
    (found name os (All-tail (λ (e : List ℕ × json.Data). IsShallow e.1) o os all))

listed : (o : Option json.Data) → IsShallowIf o → All IsShallow (option_to_list o)
listed None is = All-nil IsShallow
listed (Some d) is = All-cons IsShallow d [] is (All-nil IsShallow)

chosen_ones : (c : ParamChoice) (os : Named) → Shallow os → All IsShallow (chosen c os)
chosen_ones (by_name name) os all = listed (object_named name os) (found name os all)
chosen_ones (by_labels s) os all =
    let passes = λ (o : List ℕ × json.Data). selects s (labels_in o.1) in
    All-map IsShallow (λ (o : List ℕ × json.Data). o.1) (filter passes os) (All-filter passes (λ (o : List ℕ × json.Data). IsShallow o.1) os all)

null_or : (b : Bool) (o : Option json.Data) → IsShallowIf o → IsShallowNamespace (if b then no_object else object_or_missing o)
null_or true o is = tt
null_or false None is = tt
null_or false (Some d) is = is

if_absent : (b : Bool) (ds : List json.Data) → All IsShallow ds → AreShallowParams (found_params (if b then Err NotFound else Ok ds))
if_absent true ds all = tt
if_absent false ds all = All-map IsShallowIf Some ds all

unless : (b : Bool) (e : ParamError) (r : Result (List json.Data) ParamError) → AreShallowParams (found_params r) → AreShallowParams (found_params (if b then Err e else r))
unless true e r are = tt
unless false e r are = are

-- so have the evaluations under each binding
abbrev pub AreShallow : List (List PlannedStep) → Type 0
AreShallow all = All (All IsShallowStep) all

each : (f : Binding → List PlannedStep) (bs : List Binding) → ((b : Binding) → All IsShallowStep (f b)) → AreShallow (map f bs)
each f [] all = All-nil (All IsShallowStep)
each f (b ∷ bs) all = All-cons (All IsShallowStep) (f b) (map f bs) (all b) (each f bs all)

alone : (steps : List PlannedStep) → All IsShallowStep steps → AreShallow (steps ∷ [])
alone steps all = All-cons (All IsShallowStep) steps [] all (All-nil (All IsShallowStep))

one : (step : PlannedStep) → IsShallowStep step → All IsShallowStep (step ∷ [])
one step is = All-cons IsShallowStep step [] is (All-nil IsShallowStep)

an_error : (fails : Bool) (binding : Option (List ℕ)) (message : List ℕ) → All IsShallowStep (error_steps fails binding message)
an_error true binding message = one (plan.denies binding message) tt
an_error false binding message = All-nil IsShallowStep

given : (b : Binding) (namespace : Option json.Data) (ps : List (Option json.Data)) → IsShallowIf namespace → All IsShallowIf ps
    → All IsShallowStep (map (λ p. plan.evaluates b p namespace) ps)
given b namespace ps is all =
    All-map IsShallowStep (λ (p : Option json.Data). plan.evaluates b p namespace) ps
    (All-weaker IsShallowIf (λ (p : Option json.Data). IsShallowIf p × IsShallowIf namespace) (λ p its. (its, is)) ps all)

evaluated : (b : Binding) (n : NamespaceObject) (ps : List (Option json.Data)) → IsShallowNamespace n → All IsShallowIf ps → All IsShallowStep (evaluations b n ps)
evaluated b missing ps is all = one plan.ends tt
evaluated b no_object ps is all = given b None ps tt all
evaluated b (object d) ps is all = given b (Some d) ps is all

by_params : (fails : Bool) (b : Binding) (n : NamespaceObject) (r : Result (List (Option json.Data)) ParamError) → IsShallowNamespace n → AreShallowParams r
    → All IsShallowStep (params_steps fails b n r)
by_params fails b n (Ok ps) is are = evaluated b n ps is are
by_params fails b n (Err e) is are = an_error fails (Some b.name) (param_error_text e)

module _ (s : ClusterState) (shallow : (c : Collection) → Shallow (s.objects c)) (p : AskedPolicy) (q : Request) where
  pub namespace_is : IsShallowNamespace (namespace_object s.objects q.kind q.attributes.namespace)
  namespace_is =
      null_or (is_core_namespace q.kind || length q.attributes.namespace == 0) (namespace_named q.attributes.namespace s.objects)
      (found q.attributes.namespace (s.objects namespaces) (shallow namespaces))

  params_are : (k : Option KnownKind) (r : Option ParamRef) (own : List ℕ) → AreShallowParams (params_for s.objects k r own)
  params_are None r own = All-cons IsShallowIf None [] tt (All-nil IsShallowIf)
  params_are (Some k) None own = All-cons IsShallowIf None [] tt (All-nil IsShallowIf)
  params_are (Some k) (Some r) own =
      let place = params_place k.scope k.kind r.namespace own in
      let ds = chosen r.choice (s.objects place) in
      let ones = if_absent (r.denies_absence && length ds == 0) ds (chosen_ones r.choice (s.objects place) (shallow place)) in
      let rest : Result (List json.Data) ParamError = if_found r.denies_absence ds in
      unless (lacks_namespace k.scope r.namespace own) ClusterScopedRequest (if has_needless_namespace k.scope r.namespace then Err NeedlessNamespace else rest)
      (unless (has_needless_namespace k.scope r.namespace) NeedlessNamespace rest ones)

  by_binding : (b : Binding) (answer : Answer) → All IsShallowStep (binding_answered s p q b answer)
  by_binding b matching.No = All-nil IsShallowStep
  by_binding b matching.Unknown = one plan.unknown_match tt
  by_binding b (matching.Trouble t) = an_error (fails_closed p.policy.document) (Some b.name) (trouble_text t q.attributes.namespace)
  by_binding b matching.Yes =
      by_params (fails_closed p.policy.document) b (namespace_object s.objects q.kind q.attributes.namespace)
      (params_for s.objects p.kind b.param_ref q.attributes.namespace) namespace_is (params_are p.kind b.param_ref q.attributes.namespace)

  unless_blocked : (block : Option PolicyBlock) → AreShallow (by_block s p q block)
  unless_blocked (Some b) = alone (plan.is_blocked b ∷ []) (one (plan.is_blocked b) tt)
  unless_blocked None =
      each (binding_steps s p q) (bindings_of p.policy.name s.bindings) (λ b. by_binding b (match_answer b.resources (namespace_labels s.objects) q.attributes))

  in_trouble : Trouble → List PlannedStep
  in_trouble t = error_steps (fails_closed p.policy.document) None (trouble_text t q.attributes.namespace)

  troubled : (t : Trouble) → AreShallow (in_trouble t ∷ [])
  unfolding in_trouble
  troubled t = alone (in_trouble t) (an_error (fails_closed p.policy.document) None (trouble_text t q.attributes.namespace))

  by_answer : (block : Option PolicyBlock) (answer : Answer) → AreShallow (policy_answered s p block q answer)
  unfolding in_trouble
  by_answer block matching.No = All-nil (All IsShallowStep)
  by_answer block matching.Unknown = alone (plan.unknown_match ∷ []) (one plan.unknown_match tt)
  by_answer block (matching.Trouble t) = troubled t
  by_answer block matching.Yes = unless_blocked block

  -- each evaluation of the policy has params and a namespace of the state
  pub steps_are_shallow : (block : Option PolicyBlock) → AreShallow (policy_steps s p block q)
  steps_are_shallow block = by_answer block (match_answer p.policy.constraints (namespace_labels s.objects) q.attributes)

  -- ---- steps by other answers

  blocked_by : (answers : MatchAnswers) (block : Option PolicyBlock) → AreShallow (block_steps_by answers s p q block)
  blocked_by answers (Some b) = alone (plan.is_blocked b ∷ []) (one (plan.is_blocked b) tt)
  blocked_by answers None = each (binding_steps_by answers s p q) (bindings_of p.policy.name s.bindings) (λ b. by_binding b (answers b.resources))

  answered_by : (answers : MatchAnswers) (block : Option PolicyBlock) (answer : Answer) → AreShallow (answered_steps_by answers s p block q answer)
  unfolding in_trouble
  answered_by answers block matching.No = All-nil (All IsShallowStep)
  answered_by answers block matching.Unknown = alone (plan.unknown_match ∷ []) (one plan.unknown_match tt)
  answered_by answers block (matching.Trouble t) = troubled t
  answered_by answers block matching.Yes = blocked_by answers block

  -- likewise by the answers of a server
  pub steps_by_are_shallow : (answers : MatchAnswers) (block : Option PolicyBlock) → AreShallow (policy_steps_by answers s p block q)
  steps_by_are_shallow answers block = answered_by answers block (answers p.policy.constraints)
