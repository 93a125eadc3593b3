-- The namespace of each evaluation is the request's, so it has the same place beside the review.
use Rattle.cluster_gate.proofs.Prelude.{◌≡◌, ◌<◌, ◌∷◌, ℕ, zero, suc, arith, get_or, length, List, [], Bool, true, false, Option, Some, None, Result, Ok, Err, map, subst, sym, ClusterState, PlannedStep, Request}
use Rattle.std.proofs.lemmas.List.Elements.{All-cons, All-head, All-nil, All-tail}
use Rattle.std.specs.Borrow.{Bor}
use Rattle.std.specs.List.{All}
use Rattle.std.specs.Prelude.{◌==◌, ◌||◌, if◌then◌else◌}
use Rattle.serde_json.specs.Data as json
use Rattle.review_tables.specs.DocumentPool.{OpenValues}
use Rattle.admission_documents.specs.Requests.{is_core_namespace}
use Rattle.admission_match.specs.Matching.{match_answer}
use Rattle.admission_match.specs.declared.answer.Answer.{Answer}
use Rattle.admission_match.specs.declared.answer.Answer.TheVariants as matching
use Rattle.cluster_state.specs.Bindings.{Binding}
use Rattle.cluster_state.specs.Params.{NamespaceObject, missing, namespace_object, namespace_labels, namespace_named, no_object, object, object_or_missing, param_error_text}
use Rattle.cluster_state.specs.declared.param_error.ParamError.{ParamError}
use Rattle.cluster_plan.specs.Steps as plan
use Rattle.cluster_plan.specs.Steps.{AskedPolicy, binding_answered, binding_steps, error_steps, evaluations, fails_closed, params_for, params_steps, step_view, trouble_text}
use Rattle.cluster_plan.specs.declared.step.Step.{Step as CodeStep}
use Rattle.cluster_gate.specs.Beside.{HasKnownNamespace, IsBesideIf}
use Rattle.cluster_gate.specs.declared.namespace_place.NamespacePlace.{NamespacePlace}

-- what holds for all steps holds for the step at a place
pub all_at : (P : PlannedStep → Type 0) (xs : List CodeStep) (i : ℕ) (x : CodeStep) → i < length xs → x ≡ get_or xs i x → All P (map step_view xs) → P (step_view x)
all_at P (y ∷ ys) zero x within is all = subst (λ (z : CodeStep). P (step_view z)) (sym is) (All-head P (step_view y) (map step_view ys) all)
all_at P (y ∷ ys) (suc i) x within is all = all_at P ys i x (omega (arith, within)) is (All-tail P (step_view y) (map step_view ys) all)
all_at P [] i x within is all = absurd (omega (arith, within))

module _ (opened : Option (Bor OpenValues)) (place : Option NamespacePlace) where
  abbrev Known : PlannedStep → Type 0
  Known = HasKnownNamespace opened place

  abbrev IsKnown : NamespaceObject → Type 0
  IsKnown no_object = Unit {0}
  IsKnown (object d) = IsBesideIf opened place (Some d)
  IsKnown missing = Unit {0}

  one : (step : PlannedStep) → Known step → All Known (step ∷ [])
  one step is = All-cons Known step [] is (All-nil Known)

  an_error : (fails : Bool) (binding : Option (List ℕ)) (message : List ℕ) → All Known (error_steps fails binding message)
  an_error true binding message = one (plan.denies binding message) tt
  an_error false binding message = All-nil Known

  given : (b : Binding) (namespace : Option json.Data) (ps : List (Option json.Data)) → IsBesideIf opened place namespace
      → All Known (map (λ p. plan.evaluates b p namespace) ps)
  given b namespace [] is = All-nil Known
  given b namespace (p ∷ ps) is =
      All-cons Known (plan.evaluates b p namespace) (map (λ p. plan.evaluates b p namespace) ps) is (given b namespace ps is)

-- null needs no place
beside_none : (opened : Option (Bor OpenValues)) (place : Option NamespacePlace) → IsBesideIf opened place None
beside_none None place = tt
beside_none (Some o) None = tt
beside_none (Some o) (Some p) = tt

module _ (opened : Option (Bor OpenValues)) (place : Option NamespacePlace) where
  evaluated : (b : Binding) (n : NamespaceObject) (ps : List (Option json.Data)) → IsKnown opened place n → All (Known opened place) (evaluations b n ps)
  evaluated b missing ps is = one opened place plan.ends tt
  evaluated b no_object ps is = given opened place b None ps (beside_none opened place)
  evaluated b (object d) ps is = given opened place b (Some d) ps is

  by_params : (fails : Bool) (b : Binding) (n : NamespaceObject) (r : Result (List (Option json.Data)) ParamError) → IsKnown opened place n
      → All (Known opened place) (params_steps fails b n r)
  by_params fails b n (Ok ps) is = evaluated b n ps is
  by_params fails b n (Err e) is = an_error opened place fails (Some b.name) (param_error_text e)

  null_or : (b : Bool) (o : Option json.Data) → IsBesideIf opened place o → IsKnown opened place (if b then no_object else object_or_missing o)
  null_or true o is = tt
  null_or false None is = tt
  null_or false (Some d) is = is

  module _ (s : ClusterState) (p : AskedPolicy) (q : Request) (is : IsBesideIf opened place (namespace_named q.attributes.namespace s.objects)) where
    by_binding : (b : Binding) (answer : Answer) → All (Known opened place) (binding_answered s p q b answer)
    by_binding b matching.No = All-nil (Known opened place)
    by_binding b matching.Unknown = one opened place plan.unknown_match tt
    by_binding b (matching.Trouble t) = an_error opened place (fails_closed p.policy.document) (Some b.name) (trouble_text t q.attributes.namespace)
    by_binding b matching.Yes =
        by_params (fails_closed p.policy.document) b (namespace_object s.objects q.kind q.attributes.namespace)
        (params_for s.objects p.kind b.param_ref q.attributes.namespace)
        (null_or (is_core_namespace q.kind || length q.attributes.namespace == 0) (namespace_named q.attributes.namespace s.objects) is)

    pub steps_are_known : (b : Binding) → All (Known opened place) (binding_steps s p q b)
    steps_are_known b = by_binding b (match_answer b.resources (namespace_labels s.objects) q.attributes)
