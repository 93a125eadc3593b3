-- The resources that rules name.
use Rattle.policy_index.proofs.Prelude.{◌≡◌, ◌∙◌, ◌||◌, ◌==◌, ◌∷◌, ℕ, Bool, true, false, List, [], Global, String, ap, bytes_eq, codes, length, list_any, map, refl, string_bytes, CodeMatchResources, CodeRule, has, is_or_any, match_view, may_match, named_resource, names, one_names, patterns_have, rule_view, rules_have}

-- ---- views

any_of_map : {A B : Type 0} (p : B → Bool) (f : A → B) (xs : List A) → list_any (λ x. p (f x)) xs ≡ list_any p (map f xs)
any_of_map p f [] = refl
any_of_map p f (x ∷ xs) = ap (λ b. p (f x) || b) (any_of_map p f xs)

both : (a b c d : Bool) → a ≡ c → b ≡ d → (a || b) ≡ (c || d)
both a b c d e f = ap (λ x. x || b) e ∙ ap (λ x. c || x) f

pub named_in_views : (x : List ℕ) (rs : List CodeRule)
    → list_any (λ r. list_any (λ p. names (string_bytes p) x) r.resources.items) rs ≡ one_names (map rule_view rs) x
named_in_views x [] = refl
named_in_views x (r ∷ rs) =
    both (list_any (λ p. names (string_bytes p) x) r.resources.items)
    (list_any (λ s. list_any (λ p. names (string_bytes p) x) s.resources.items) rs)
    (list_any (λ p. names p x) (map string_bytes r.resources.items)) (one_names (map rule_view rs) x)
    (any_of_map (λ p. names p x) string_bytes r.resources.items) (named_in_views x rs)

-- ---- what names a resource is named by it, or names `*` and so every resource

itself_or : (star here : Bool) → (star || here) ≡ (here || (star || star))
itself_or true true = refl
itself_or true false = refl
itself_or false true = refl
itself_or false false = refl

apart : (a b c d : Bool) → ((a || b) || (c || d)) ≡ ((a || c) || (b || d))
apart true b c d = refl
apart false true true d = refl
apart false true false d = refl
apart false false c d = refl

patterns_or : (x : List ℕ) (ps : List (String Global)) → list_any (λ p. names p x) (map string_bytes ps)
    ≡ (patterns_have ps x || list_any (λ p. names p (codes "*")) (map string_bytes ps))
patterns_or x [] = refl
patterns_or x (p ∷ ps) =
    let n = named_resource (string_bytes p) in
    let rest = list_any (λ p. names p (codes "*")) (map string_bytes ps) in
    both (is_or_any n x) (list_any (λ p. names p x) (map string_bytes ps)) (bytes_eq n x || is_or_any n (codes "*"))
    (patterns_have ps x || rest)
    (itself_or (bytes_eq n (codes "*")) (bytes_eq n x)) (patterns_or x ps)
    ∙ apart (bytes_eq n x) (is_or_any n (codes "*")) (patterns_have ps x) rest

rules_or : (x : List ℕ) (rs : List CodeRule)
    → one_names (map rule_view rs) x ≡ (rules_have rs x || one_names (map rule_view rs) (codes "*"))
rules_or x [] = refl
rules_or x (r ∷ rs) =
    let star = list_any (λ p. names p (codes "*")) (map string_bytes r.resources.items) in
    let rest = one_names (map rule_view rs) (codes "*") in
    both (list_any (λ p. names p x) (map string_bytes r.resources.items)) (one_names (map rule_view rs) x)
    (patterns_have r.resources.items x || star) (rules_have rs x || rest)
    (patterns_or x r.resources.items) (rules_or x rs)
    ∙ apart (patterns_have r.resources.items x) star (rules_have rs x) rest

none_or : (none a b c d : Bool) → ((none || (a || b)) || (c || d)) ≡ ((a || c) || ((none || b) || d))
none_or true true b c d = refl
none_or true false b true d = refl
none_or true false b false d = refl
none_or false a b c d = apart a b c d

pub may_match_or : (x : List ℕ) (m : CodeMatchResources)
    → may_match (match_view m) x ≡ (has m x || may_match (match_view m) (codes "*"))
unfolding may_match
may_match_or x m =
    let rules = map rule_view m.resource_rules.items in
    let excludes = map rule_view m.exclude_resource_rules.items in
    both (length rules == 0 || one_names rules x) (one_names excludes x)
    (length rules == 0 || (rules_have m.resource_rules.items x || one_names rules (codes "*")))
    (rules_have m.exclude_resource_rules.items x || one_names excludes (codes "*"))
    (ap (λ b. length rules == 0 || b) (rules_or x m.resource_rules.items)) (rules_or x m.exclude_resource_rules.items)
    ∙ none_or (length rules == 0) (rules_have m.resource_rules.items x) (one_names rules (codes "*"))
    (rules_have m.exclude_resource_rules.items x) (one_names excludes (codes "*"))
