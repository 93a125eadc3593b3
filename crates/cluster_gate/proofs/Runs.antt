-- The steps of a policy under a binding, and its bindings, one after another.
use Rattle.cluster_gate.proofs.Prelude.{◌≡◌, ◌∙◌, ◌+◌, ◌<◌, ◌≤◌, ◌++◌, ◌∷◌, ℕ, zero, suc, ap, arith, drop, get_or, length, refl, List, [], true, false, Option, Ok, Err, map, append-nil, append_assoc, subst, sym, AddedBefore, Adds, AddsBindings, AddsStep, AddsSteps, BoundBefore, BoundPolicy, CodeEvents, Event, IsRunOf, KeepsEvents, OneImage, PlannedStep, PolicyRun, RunsBindings, RunsSteps, finds_of, policy_view, NextStep, NextBinding, End}
use Rattle.serde_json.specs.Data as json
use Rattle.policy_glue.specs.Findings.{finding_view}
use Rattle.policy_glue.specs.declared.finding.Finding.{Finding}
use Rattle.std.specs.Borrow.{Bor}
use Rattle.cluster_state.specs.Bindings.{Binding, binding_view}
use Rattle.cluster_state.specs.declared.binding.Binding.{Binding as CodeBinding}
use Rattle.std.proofs.lemmas.List.{drop_more}
use Rattle.cluster_plan.specs.Steps as plan
use Rattle.cluster_plan.specs.Steps.{step_view}
use Rattle.cluster_plan.specs.declared.step.Step.{Step as CodeStep}
use Rattle.cluster_response.specs.Events as event
use Rattle.cluster_response.specs.Events.{configuration_event, findings_events}
use Rattle.cluster_response.specs.declared.cluster_refusal.ClusterRefusal.{ClusterRefusal}
use Rattle.cluster_response.specs.declared.cluster_refusal.ClusterRefusal.TheVariants as refusal
use Rattle.cluster_gate.specs.Dispatch.{no_steps, denied, not_known, found, refused, at_end, undecided_event, no_bindings, next_binding, last_binding}
use Rattle.cluster_gate.specs.Running.{FindsOrRefuses}
use Rattle.cluster_gate.specs.declared.progress.Progress.{Progress}
use Rattle.admission.specs.declared.language.Language.{Language}

-- The policies are read in this language.
module _ (language : Language) where
  -- nothing is added
  pub adds_none : (e : CodeEvents) → Adds e e []
  adds_none e es kept = subst (λ (l : List Event). KeepsEvents e l) (sym (append-nil es)) kept

  -- events are added after others
  pub adds_both : (a b c : CodeEvents) (xs ys : List Event) → Adds a b xs → Adds b c ys → Adds a c (xs ++ ys)
  adds_both a b c xs ys first then es kept = subst (λ (l : List Event). KeepsEvents c l) (append_assoc es xs ys) (then (es ++ xs) (first es kept))

  module _ (p : BoundPolicy) (run : PolicyRun) (all : List PlannedStep) (before : CodeEvents) where
    -- before the first step
    pub added_none : AddedBefore language p run all all before before
    added_none = ([], adds_none before, λ es ended runs. runs)

    -- after the last step
    pub added_all : (now : CodeEvents) → AddedBefore language p run all [] before now → AddsSteps language p run all before now false
    added_all now (more, adds, goes) =
        (more, adds, subst (λ (l : List Event). RunsSteps p (finds_of language p run) all l false) (append-nil more) (goes [] false no_steps))

    module _ (step : PlannedStep) (rest : List PlannedStep) (now after : CodeEvents) (so_far : AddedBefore language p run all (step ∷ rest) before now) where
      -- a step that others follow
      pub added_step : AddsStep language p run step now after NextStep → AddedBefore language p run all rest before after
      added_step (fs, adds, runs) = (
        so_far.0 ++ fs,
        adds_both before now after so_far.0 fs so_far.1 adds,
        λ es ended others.
            subst (λ (l : List Event). RunsSteps p (finds_of language p run) all l ended) (sym (append_assoc so_far.0 fs es))
            (so_far.2 (fs ++ es) ended (runs rest es ended others)),
      )

      -- the last step of the binding
      pub added_last : AddsStep language p run step now after NextBinding → AddsSteps language p run all before after false
      added_last (fs, adds, runs) = (so_far.0 ++ fs, adds_both before now after so_far.0 fs so_far.1 adds, so_far.2 fs false (runs rest))

      -- the last step of the dispatch
      pub added_end : AddsStep language p run step now after End → AddsSteps language p run all before after true
      added_end (fs, adds, runs) = (so_far.0 ++ fs, adds_both before now after so_far.0 fs so_far.1 adds, so_far.2 fs true (runs rest))

  -- ---- one step

  module _ (p : BoundPolicy) (run : PolicyRun) (of : IsRunOf language p run) (before after : CodeEvents) where
    same_name : run.policy.now.name.now ≡ p.name
    same_name = ap (λ (x : BoundPolicy). x.name) of.policy

    -- the events of findings are added
    pub found_step : (b : Binding) (params namespace : Option json.Data) (slice items : List Finding) → slice ≡ items
        → ((es : List Event) → KeepsEvents before es → KeepsEvents after (es ++ findings_events run.policy.now.name.now b (map finding_view slice)))
        → finds_of language p run params namespace (Ok (map finding_view items)) → AddsStep language p run (plan.evaluates b params namespace) before after NextStep
    found_step b params namespace slice items is adds finds = (
      findings_events p.name b (map finding_view items),
      λ es kept. subst (λ (xs : List Finding). KeepsEvents after (es ++ findings_events p.name b (map finding_view xs))) is
          (subst (λ (name : List ℕ). KeepsEvents after (es ++ findings_events name b (map finding_view slice))) same_name (adds es kept)),
      λ steps es ended rest. found finds rest,
    )

    told_last : (step : PlannedStep) (progress : Progress) (r : ClusterRefusal) → progress ≡ NextBinding → Adds before after (undecided_event (policy_view run.policy.now) r ∷ [])
        → ((steps : List PlannedStep) → RunsSteps p (finds_of language p run) (step ∷ steps) (undecided_event p r ∷ []) false) → AddsStep language p run step before after progress
    told_last step progress r is adds runs =
        subst (λ (x : Progress). AddsStep language p run step before after x) (sym is)
        (undecided_event p r ∷ [], subst (λ (x : BoundPolicy). Adds before after (undecided_event x r ∷ [])) of.policy adds, runs)

    -- the event of a refusal instead of findings is added
    pub refused_step : (b : Binding) (params namespace : Option json.Data) (progress : Progress) (r : ClusterRefusal)
        → (progress ≡ NextBinding) × Adds before after (undecided_event (policy_view run.policy.now) r ∷ [])
        → FindsOrRefuses language OneImage run.case.now.review.now run.case.now.limits p params namespace (Err r) → AddsStep language p run (plan.evaluates b params namespace) before after progress
    refused_step b params namespace progress r told finds =
        told_last (plan.evaluates b params namespace) progress r told.0 told.1 (λ steps. refused finds.1 finds.2)

    -- the event of a match that is not known is added
    pub unknown_step : (step : PlannedStep) (progress : Progress) → step ≡ plan.unknown_match
        → (progress ≡ NextBinding) × Adds before after (undecided_event (policy_view run.policy.now) refusal.UnknownMatch ∷ []) → AddsStep language p run step before after progress
    unknown_step step progress is told =
        subst (λ (x : PlannedStep). AddsStep language p run x before after progress) (sym is) (told_last plan.unknown_match progress refusal.UnknownMatch told.0 told.1 (λ steps. not_known))

    -- an error of configuration is added
    pub denied_step : (step : PlannedStep) (binding : Option (List ℕ)) (text message : List ℕ) → step ≡ plan.denies binding message → text ≡ message
        → ((es : List Event) → KeepsEvents before es → KeepsEvents after (es ++ configuration_event run.policy.now.name.now binding text ∷ []))
        → AddsStep language p run step before after NextStep
    denied_step step binding text message is same adds =
        subst (λ (x : PlannedStep). AddsStep language p run x before after NextStep) (sym is) (
          configuration_event p.name binding message ∷ [],
          λ es kept. subst (λ (t : List ℕ). KeepsEvents after (es ++ configuration_event p.name binding t ∷ [])) same
              (subst (λ (name : List ℕ). KeepsEvents after (es ++ configuration_event name binding text ∷ [])) same_name (adds es kept)),
          λ steps es ended rest. denied rest,
        )

    -- the end is added
    pub end_step : (step : PlannedStep) → step ≡ plan.ends → Adds before after (event.ends ∷ []) → AddsStep language p run step before after End
    end_step step is adds = subst (λ (x : PlannedStep). AddsStep language p run x before after End) (sym is) (event.ends ∷ [], adds, λ steps. at_end)

  -- ---- bindings

  module _ (p : BoundPolicy) (run : PolicyRun) (all : List (List PlannedStep)) (before : CodeEvents) where
    -- before the first binding
    pub bound_none : BoundBefore language p run all all before before
    bound_none = ([], adds_none before, λ es ended runs. runs)

    -- after the last binding
    pub bound_all : (now : CodeEvents) (left : List (List PlannedStep)) → left ≡ [] → BoundBefore language p run all left before now → AddsBindings language p run all before now false
    bound_all now left are so_far =
        let at_end = subst (λ (l : List (List PlannedStep)). BoundBefore language p run all l before now) are so_far in (
          at_end.0,
          at_end.1,
          subst (λ (l : List Event). RunsBindings p (finds_of language p run) all l false) (append-nil at_end.0) (at_end.2 [] false no_bindings),
        )

    module _ (steps : List PlannedStep) (rest left : List (List PlannedStep)) (now after : CodeEvents) (are : left ≡ steps ∷ rest)
        (so_far : BoundBefore language p run all left before now) where
      here : BoundBefore language p run all (steps ∷ rest) before now
      here = subst (λ (l : List (List PlannedStep)). BoundBefore language p run all l before now) are so_far

      -- a binding that others follow
      pub bound_more : AddsSteps language p run steps now after false → BoundBefore language p run all rest before after
      unfolding here
      bound_more (fs, adds, runs) = (
        here.0 ++ fs,
        adds_both before now after here.0 fs here.1 adds,
        λ es ended others.
            subst (λ (l : List Event). RunsBindings p (finds_of language p run) all l ended) (sym (append_assoc here.0 fs es))
            (here.2 (fs ++ es) ended (next_binding runs others)),
      )

      -- the binding that ends the dispatch
      pub bound_last : AddsSteps language p run steps now after true → AddsBindings language p run all before after true
      unfolding here
      bound_last (fs, adds, runs) = (here.0 ++ fs, adds_both before now after here.0 fs here.1 adds, here.2 fs true (last_binding runs))

  each_view : (f : Binding → List PlannedStep) (bs : List (Bor CodeBinding)) → map (λ b. f (binding_view b.now)) bs ≡ map f (map (λ b. binding_view b.now) bs)
  each_view f [] = refl
  each_view f (b ∷ bs) = ap (λ rest. f (binding_view b.now) ∷ rest) (each_view f bs)

  -- the steps of bindings in a slice are those of their views
  pub steps_of_bindings : (f : Binding → List PlannedStep) (slice items : List (Bor CodeBinding)) (views : List Binding) → slice ≡ items → map (λ b. binding_view b.now) items ≡ views
      → map (λ b. f (binding_view b.now)) slice ≡ map f views
  steps_of_bindings f slice items views is are = ap (map (λ (b : Bor CodeBinding). f (binding_view b.now))) is ∙ each_view f items ∙ ap (map f) are

  -- ---- the code's steps

  past_end : (xs : List CodeStep) (i : ℕ) → length xs ≤ i → drop i xs ≡ []
  past_end [] zero past = refl
  past_end [] (suc i) past = refl
  past_end (x ∷ xs) zero past = absurd (omega (arith, past))
  past_end (x ∷ xs) (suc i) past = past_end xs i (omega (arith, past))

  module _ (p : BoundPolicy) (run : PolicyRun) (xs : List CodeStep) (i : ℕ) (before now : CodeEvents)
      (so_far : AddedBefore language p run (map step_view xs) (map step_view (drop i xs)) before now) where
    -- at the step of this place
    pub at_step : (x : CodeStep) → i < length xs → x ≡ get_or xs i x → AddedBefore language p run (map step_view xs) (step_view x ∷ map step_view (drop (i + 1) xs)) before now
    at_step x within is =
        let here : drop i xs ≡ x ∷ drop (i + 1) xs = drop_more xs i x within ∙ ap (λ y. y ∷ drop (i + 1) xs) (sym is) in
        subst (λ (rest : List CodeStep). AddedBefore language p run (map step_view xs) (map step_view rest) before now) here so_far

    -- after all steps
    pub at_last : length xs ≤ i → AddsSteps language p run (map step_view xs) before now false
    at_last past =
        added_all p run (map step_view xs) before now
        (subst (λ (rest : List CodeStep). AddedBefore language p run (map step_view xs) (map step_view rest) before now) (past_end xs i past) so_far)
