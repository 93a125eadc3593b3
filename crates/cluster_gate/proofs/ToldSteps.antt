-- Bindings and policies that do not end the dispatch, one after another.
use Rattle.cluster_gate.proofs.Prelude.{◌≡◌, ◌∙◌, ◌++◌, ℕ, List, Bool, true, false, Option, ap, option_map, refl, sym, BoundPolicy, ClusterState, Dispatches, Event, IsJudged, OneImage, PlannedStep, Request, RunsBindings, RunsSteps, asked_policy, block_of, policy_steps}
use Rattle.std.proofs.Common.{true≢false}
use Rattle.std.proofs.lemmas.Bool.{or_parts}
use Rattle.std.specs.Prelude.{◌||◌}
use Rattle.cluster_response.proofs.Kept.{has_end-append, or_true}
use Rattle.cluster_response.specs.Events.{findings_events, has_end}
use Rattle.cluster_gate.proofs.Each.{Each, over_none, over_one}
use Rattle.cluster_gate.specs.Dispatch.{EvaluatesPolicy, FindsWith, no_policies, next, last, no_bindings, next_binding, last_binding, denied, found, at_end}
use Rattle.cluster_gate.specs.declared.block_cause.BlockCause.{BlockCause}
use Rattle.admission.specs.declared.language.Language.{Language}
use Rattle.admission.specs.declared.limits.Limits.{Limits}

-- The policies are read in this language.
module _ (language : Language) where
  -- ---- events

  -- the dispatch does not end
  abbrev pub GoesOn : List Event → Type 0
  GoesOn es = has_end es ≡ false

  pub goes_on_parts : (xs ys : List Event) → GoesOn (xs ++ ys) → GoesOn xs × GoesOn ys
  goes_on_parts xs ys on = or_parts (has_end xs) (has_end ys) (sym (has_end-append xs ys) ∙ on)

  -- ---- bindings

  module _ (p : BoundPolicy) (finds : FindsWith) where
    -- the events of a binding that does not end the dispatch
    abbrev pub BindingTells : List PlannedStep → List Event → Type 0
    BindingTells steps es = RunsSteps p finds steps es false

    -- steps that end the dispatch have an end among their events
    some_end : (steps : List PlannedStep) (es : List Event) → RunsSteps p finds steps es true → has_end es ≡ true
    some_end _ _ (denied {steps = steps} {es = es} r) = some_end steps es r
    some_end _ _ (found {b = b} {fs = fs} {steps = steps} {es = es} f r) =
        has_end-append (findings_events p.name b fs) es
        ∙ (ap (λ (x : Bool). has_end (findings_events p.name b fs) || x) (some_end steps es r) ∙ or_true (has_end (findings_events p.name b fs)))
    some_end _ _ at_end = refl

    -- if there is no end, all bindings are run
    pub all_told : (all : List (List PlannedStep)) (es : List Event) (ended : Bool) → RunsBindings p finds all es ended → GoesOn es
        → Each BindingTells all es × (ended ≡ false)
    all_told _ _ _ no_bindings on = (over_none, refl)
    all_told _ _ _ (next_binding {others = others} {es = es} {more = more} {ended = x} r rest) on =
        let after = all_told others more x rest (goes_on_parts es more on).1 in (over_one r after.0, after.1)
    all_told _ _ _ (last_binding {steps = steps} {es = es} r) on = absurd (true≢false (sym (some_end steps es r) ∙ on))

    pub told_run : (all : List (List PlannedStep)) (es : List Event) → Each BindingTells all es → RunsBindings p finds all es false
    told_run _ _ over_none = no_bindings
    told_run _ _ (over_one {xs = others} {fs = more} r rest) = next_binding r (told_run others more rest)

  -- ---- policies

  module _ (s : ClusterState) (review : List ℕ) (limits : Limits) (q : Request) where
    -- the events of a policy that does not end the dispatch
    abbrev pub PolicyTells : BoundPolicy → List Event → Type 0
    PolicyTells p es = (cause : Option BlockCause) × IsJudged language s p cause
        × Each (BindingTells p (EvaluatesPolicy language OneImage review limits p)) (policy_steps s (asked_policy s p) (option_map block_of cause) q) es

    pub all_dispatched : (ps : List BoundPolicy) (es : List Event) → Dispatches language OneImage s review limits q ps es → GoesOn es → Each PolicyTells ps es
    all_dispatched _ _ no_policies on = over_none
    all_dispatched _ _ (next {p = p} {ps = ps} {es = es} {more = more} a rest) on =
        let parts = goes_on_parts es more on in
        let told = all_told p (EvaluatesPolicy language OneImage review limits p) _ es false a.runs parts.0 in
        over_one (a.cause, a.judged, told.0) (all_dispatched ps more rest parts.1)
    all_dispatched _ _ (last {p = p} {es = es} a) on =
        let told = all_told p (EvaluatesPolicy language OneImage review limits p) _ es true a.runs on in
        let no = told.1 in absurd (cc)

    pub told_dispatched : (ps : List BoundPolicy) (es : List Event) → Each PolicyTells ps es → Dispatches language OneImage s review limits q ps es
    told_dispatched _ _ over_none = no_policies
    told_dispatched _ _ (over_one {x = p} {xs = ps} {es = es} {fs = more} told rest) =
        next (record { cause = told.0; judged = told.1; runs = told_run p (EvaluatesPolicy language OneImage review limits p) _ es told.2 }) (told_dispatched ps more rest)
