-- The evaluations under a binding, and the numbers of their documents.
use Rattle.cluster_plan.proofs.Prelude.{◌≡◌, ◌∷◌, ℕ, Bool, true, false, List, [], Option, Some, Result, Ok, ap, map, option_map, refl, subst, sym, All, All-cons, All-head, All-map, All-nil, All-tail, CodeStep, Document, Item, ParamError, error_steps, found_params, step_documents, step_view, view, IsNumbered, IsNumberedIf, IsNumberedStep}
use Rattle.std.specs.Prelude.{Err, IfOk, Vec}
use Rattle.std.specs.declared.alloc.AllocError.{AllocError}
use Rattle.std.specs.declared.alloc.Global.{Global}
use Rattle.cluster_plan.specs.declared.step.Step.TheVariants as code
use Rattle.cluster_plan.specs.Steps.{denies}
use Rattle.serde_json.specs.Data as json

given_each : (ds : List Document) → map Some (map (λ d. view d.value.now) ds) ≡ map (option_map (λ d. view d.value.now)) (map Some ds)
given_each [] = refl
given_each (d ∷ ds) = ap (λ rest. Some (view d.value.now) ∷ rest) (given_each ds)

-- the params that are found are given, each once
pub given_params : (due : Result (List json.Data) ParamError) (ds : List Document) (items : List (Option Document)) → due ≡ Ok (map (λ d. view d.value.now) ds)
    → items ≡ map Some ds → found_params due ≡ Ok (map (option_map (λ d. view d.value.now)) items)
given_params due ds items found given = rw (found, given) (ap Ok (given_each ds))

pub given_numbered : (is : List Item) (ds : List Document) (items : List (Option Document)) → All (IsNumbered is) ds → items ≡ map Some ds
    → All (IsNumberedIf is) items
given_numbered is ds items are given = subst (All (IsNumberedIf is)) (sym given) (All-map (IsNumberedIf is) Some ds are)

-- the documents of evaluations have the numbers of their items
pub evaluations_numbered : (is : List Item) (namespace : Option Document) (ps : List (Option Document)) (ss : List CodeStep)
    → map step_documents ss ≡ map (λ p. (p, namespace)) ps → IsNumberedIf is namespace → All (IsNumberedIf is) ps → All (IsNumberedStep is) ss
evaluations_numbered is namespace [] [] e found are = All-nil (IsNumberedStep is)
evaluations_numbered is namespace [] (s ∷ ss) e found are = cc
evaluations_numbered is namespace (p ∷ ps) [] e found are = cc
evaluations_numbered is namespace (p ∷ ps) (s ∷ ss) e found are =
    let same : step_documents s ≡ (p, namespace) = cc in
    let rest : map step_documents ss ≡ map (λ q. (q, namespace)) ps = cc in
    All-cons (IsNumberedStep is) s ss
    (subst (λ (d : Option Document × Option Document). IsNumberedIf is d.0 × IsNumberedIf is d.1) (sym same) (All-head (IsNumberedIf is) p ps are, found))
    (evaluations_numbered is namespace ps ss rest found (All-tail (IsNumberedIf is) p ps are))

pub steps_numbered : (is : List Item) (namespace : Option Document) (ps : List (Option Document)) (r : Result (Vec CodeStep Global) AllocError)
    → IfOk r (λ v. map step_documents v.items ≡ map (λ p. (p, namespace)) ps) → IsNumberedIf is namespace → All (IsNumberedIf is) ps
    → IfOk r (λ v. All (IsNumberedStep is) v.items)
steps_numbered is namespace ps (Ok v) e found are = evaluations_numbered is namespace ps v.items e found are
steps_numbered is namespace ps (Err x) e found are = e

-- one step with no documents
pub one_numbered : (is : List Item) (s : CodeStep) (ss : List CodeStep) → ss ≡ s ∷ [] → IsNumberedStep is s → All (IsNumberedStep is) ss
one_numbered is s ss are h = subst (All (IsNumberedStep is)) (sym are) (All-cons (IsNumberedStep is) s [] h (All-nil (IsNumberedStep is)))

denial_numbered : (is : List Item) (s : CodeStep) (name : Option (List ℕ)) (message : List ℕ) → step_view s ≡ denies name message → IsNumberedStep is s
denial_numbered is (code.Denial b m) name message e = (tt, tt)
denial_numbered is code.UnknownMatch name message e = cc
denial_numbered is (code.Evaluation b p n) name message e = cc
denial_numbered is code.NamespaceNotFound name message e = cc

-- an error evaluates nothing
pub error_numbered : (is : List Item) (fails : Bool) (name : Option (List ℕ)) (message : List ℕ) (ss : List CodeStep)
    → map step_view ss ≡ error_steps fails name message → All (IsNumberedStep is) ss
error_numbered is fails name message [] e = All-nil (IsNumberedStep is)
error_numbered is true name message (s ∷ []) e =
    let same : step_view s ≡ denies name message = cc in
    All-cons (IsNumberedStep is) s [] (denial_numbered is s name message same) (All-nil (IsNumberedStep is))
error_numbered is true name message (s ∷ t ∷ ss) e = cc
error_numbered is false name message (s ∷ ss) e = cc
