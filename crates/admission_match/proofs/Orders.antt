-- Exchanging adjacent rules.
use Rattle.admission_match.proofs.Prelude.{◌≡◌, ◌∙◌, ap, refl, Bool, true, false, ◌||◌, List, [], ◌∷◌, ◌++◌, list_any, Attributes, Namespaces, MatchResources, MatchPolicy, Exact, Equivalent, Rule, RulesAnswer, SomeFits, NoneFits, NotKnown, Answer, No, NamespaceAnswer, at_excludes, at_namespace, at_rules, fits, may_fit, match_answer, namespace_answer, object_passes, rules_answer, if◌then◌else◌}

or_swap : (x y z : Bool) → (x || (y || z)) ≡ (y || (x || z))
or_swap true true z = refl
or_swap true false z = refl
or_swap false y z = refl

any_swap : {A : Type 0} (p : A → Bool) (before : List A) (a b : A) (after : List A) → list_any p (before ++ a ∷ b ∷ after) ≡ list_any p (before ++ b ∷ a ∷ after)
any_swap p [] a b after = or_swap (p a) (p b) (list_any p after)
any_swap p (x ∷ xs) a b after = ap (λ t. p x || t) (any_swap p xs a b after)

rules_swap : (policy : MatchPolicy) (q : Attributes) (before : List Rule) (a b : Rule) (after : List Rule)
    → rules_answer policy (before ++ a ∷ b ∷ after) q ≡ rules_answer policy (before ++ b ∷ a ∷ after) q
rules_swap Exact q before a b after = ap (λ t. if t then SomeFits else NoneFits) (any_swap (λ r. fits r q q.resource) before a b after)
rules_swap Equivalent q before a b after =
    ap (λ t. if t then SomeFits else (if list_any (λ r. may_fit r q) (before ++ a ∷ b ∷ after) then NotKnown else NoneFits)) (any_swap (λ r. fits r q q.resource) before a b after)
    ∙ ap (λ t. if list_any (λ r. fits r q q.resource) (before ++ b ∷ a ∷ after) then SomeFits else (if t then NotKnown else NoneFits)) (any_swap (λ r. may_fit r q) before a b after)

at_rules_swap : (n : NamespaceAnswer) (before : List Rule) (a b : Rule) (after : List Rule) (f : RulesAnswer)
    → at_rules n (before ++ a ∷ b ∷ after) f ≡ at_rules n (before ++ b ∷ a ∷ after) f
at_rules_swap n [] a b after SomeFits = refl
at_rules_swap n [] a b after NoneFits = refl
at_rules_swap n [] a b after NotKnown = refl
at_rules_swap n (x ∷ xs) a b after SomeFits = refl
at_rules_swap n (x ∷ xs) a b after NoneFits = refl
at_rules_swap n (x ∷ xs) a b after NotKnown = refl

pub rules_have_no_order : (m : MatchResources) (namespaces : Namespaces) (q : Attributes) (before : List Rule) (a b : Rule) (after : List Rule)
    → match_answer (record m { resource_rules = before ++ a ∷ b ∷ after }) namespaces q ≡ match_answer (record m { resource_rules = before ++ b ∷ a ∷ after }) namespaces q
unfolding match_answer
rules_have_no_order m namespaces q before a b after =
    let n : NamespaceAnswer = namespace_answer m.namespace_selector namespaces q in
    ap
    (λ (t : Answer). at_namespace n (if object_passes m.object_selector q then at_excludes (rules_answer m.match_policy m.exclude_resource_rules q) t else No))
    (ap (at_rules n (before ++ a ∷ b ∷ after)) (rules_swap m.match_policy q before a b after) ∙ at_rules_swap n before a b after (rules_answer m.match_policy (before ++ b ∷ a ∷ after) q))

pub excludes_have_no_order : (m : MatchResources) (namespaces : Namespaces) (q : Attributes) (before : List Rule) (a b : Rule) (after : List Rule)
    → match_answer (record m { exclude_resource_rules = before ++ a ∷ b ∷ after }) namespaces q ≡ match_answer (record m { exclude_resource_rules = before ++ b ∷ a ∷ after }) namespaces q
unfolding match_answer
excludes_have_no_order m namespaces q before a b after =
    let n : NamespaceAnswer = namespace_answer m.namespace_selector namespaces q in
    ap
    (λ (t : RulesAnswer). at_namespace n (if object_passes m.object_selector q then at_excludes t (at_rules n m.resource_rules (rules_answer m.match_policy m.resource_rules q)) else No))
    (rules_swap m.match_policy q before a b after)
