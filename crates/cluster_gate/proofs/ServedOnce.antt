-- A server that knows other resources has the events that ours has, if each policy decides.
use Rattle.cluster_gate.proofs.Prelude.{◌≡◌, ◌∙◌, ◌++◌, ℕ, List, Bool, true, false, ap, refl, BoundPolicy, ClusterState, Event, OneImage, Request, asked_policy, policies_asked}
use Rattle.std.proofs.lemmas.List.Elements.{All-head, All-tail}
use Rattle.std.specs.List.{All}
use Rattle.policy_glue.specs.OneAnswer.{CompileHasOneResult}
use Rattle.admission.specs.OneAnswer.{FindingsHaveOneResult}
use Rattle.admission_match.specs.Laws.{EveryServerAgrees}
use Rattle.admission_match.specs.Requests.{GroupVersionResource, is_exempt}
use Rattle.cluster_gate.proofs.OneAnswer.{asked_shallow, policy_once}
use Rattle.cluster_gate.proofs.ServedSteps.{served_dispatch}
use Rattle.cluster_gate.proofs.ShallowSteps.{steps_by_are_shallow}
use Rattle.cluster_gate.specs.Laws.{HasShallowDocuments, IsShallow}
use Rattle.cluster_gate.specs.Servers.{EquivalentsAreFree, ServerAsksPolicy, ServerDispatches, no_policies, next, last, policy_steps_by, server_answers}
use Rattle.admission.specs.declared.language.Language.{Language}
use Rattle.admission.specs.declared.limits.Limits.{Limits}

-- The policies are read in this language.
module _ (language : Language) where
  module _ (compiles : CompileHasOneResult) (findings : FindingsHaveOneResult) (served : List GroupVersionResource) (s : ClusterState) (review : List ℕ) (limits : Limits)
      (q : Request) (shallow : HasShallowDocuments s) where
    asks_once : (p : BoundPolicy) (es fs : List Event) (x y : Bool) → IsShallow p.document → ServerAsksPolicy language served OneImage s review limits q p es x
        → ServerAsksPolicy language served OneImage s review limits q p fs y → (es ≡ fs) × (x ≡ y)
    asks_once p es fs x y deep a b =
        let answers = server_answers served s q in
        policy_once language compiles findings review limits s q shallow p (λ block. policy_steps_by answers s (asked_policy s p) block q)
        (steps_by_are_shallow s shallow.objects (asked_policy s p) q answers) deep a.cause b.cause es fs x y a.judged b.judged a.runs b.runs

    server_once : (ps : List BoundPolicy) (es fs : List Event) → All (λ (p : BoundPolicy). IsShallow p.document) ps → ServerDispatches language served OneImage s review limits q ps es
        → ServerDispatches language served OneImage s review limits q ps fs → es ≡ fs
    server_once _ _ _ all no_policies no_policies = refl
    server_once _ _ _ all (next {p = p} {ps = ps} {es = es} {more = more} a rest) (next {es = fs} {more = other} b left) =
        let deep = All-head (λ (r : BoundPolicy). IsShallow r.document) p ps all in
        let others = server_once ps more other (All-tail (λ (r : BoundPolicy). IsShallow r.document) p ps all) rest left in
        ap (λ (l : List Event). l ++ more) (asks_once p es fs false false deep a b).0 ∙ ap (λ (l : List Event). fs ++ l) others
    server_once _ _ _ all (next {p = p} {ps = ps} {es = es} a rest) (last {es = fs} b) =
        let both = (asks_once p es fs false true (All-head (λ (r : BoundPolicy). IsShallow r.document) p ps all) a b).1 in absurd (cc)
    server_once _ _ _ all (last {p = p} {ps = ps} {es = es} a) (next {es = fs} b left) =
        let both = (asks_once p es fs true false (All-head (λ (r : BoundPolicy). IsShallow r.document) p ps all) a b).1 in absurd (cc)
    server_once _ _ _ all (last {p = p} {ps = ps} {es = es} a) (last {es = fs} b) =
        (asks_once p es fs true true (All-head (λ (r : BoundPolicy). IsShallow r.document) p ps all) a b).0

pub equivalents_are_free : CompileHasOneResult → FindingsHaveOneResult → EveryServerAgrees → EquivalentsAreFree
equivalents_are_free compiles findings agrees language served s review limits q es fs shallow all decide ours theirs =
    server_once language compiles findings served s review limits q shallow (policies_asked s q) fs es
    (asked_shallow language compiles findings review limits s (is_exempt q.attributes.resource) shallow) theirs
    (served_dispatch language agrees served s review limits q all (policies_asked s q) es decide ours)
