-- What may not match a request on a resource matches none.
use Rattle.policy_index.proofs.Prelude.{◌≡◌, ◌∙◌, ◌==◌, ◌&&◌, ◌||◌, ◌+◌, ◌∷◌, ℕ, Bool, true, false, List, [], Some, None, ap, cond, drop, length, list_any, ltb-false, nat_lt, or_from, or_parts, position_or_len, refl, sym, take, take_all, true≢false, if◌then◌else◌, Attributes, Exact, LabelSelector, MatchResources, Namespaces, No, Option, Rule, at_excludes, at_namespace, at_rules, covers, covers_cut, covers_one, if_selected, is_empty, is_or_any, is_outside_namespaces, match_answer, may_match, names, namespace_answer, none_covered, object_passes, one_names, passes_if, rules_answer, writes_namespace}

cut_uncovered : (b : Bool) (n : ℕ) (p x sub : List ℕ) → (b ≡ false → take n p ≡ p) → is_or_any (take n p) x ≡ false
    → covers_cut (cond b (Some n) None) p x sub ≡ false
cut_uncovered true n p x sub whole h = ap (λ b. b && is_or_any (drop (n + 1) p) sub) h
cut_uncovered false n p x sub whole h = ap (λ b. b && is_or_any [] sub) (ap (λ t. is_or_any t x) (sym (whole refl)) ∙ h)

-- a pattern that does not name a resource covers none of its subresources
uncovered : (x sub p : List ℕ) → names p x ≡ false → covers p x sub ≡ false
unfolding covers
uncovered x sub p h =
    let n = position_or_len (λ c. c == 47) p in
    cut_uncovered (nat_lt n (length p)) n p x sub (λ e. take_all n p (ltb-false n (length p) e)) h

none_of : {A : Type 0} (f g : A → Bool) → ((a : A) → f a ≡ false → g a ≡ false) → (xs : List A) → list_any f xs ≡ false
    → list_any g xs ≡ false
none_of f g so [] h = refl
none_of f g so (x ∷ xs) h =
    let parts = or_parts (f x) (list_any f xs) h in
    or_from (g x) (list_any g xs) (so x parts.0) (none_of f g so xs parts.1)

-- nor do rules
no_rule_covers : (x sub : List ℕ) (rs : List Rule) → one_names rs x ≡ false → list_any (λ r. covers_one r.resources x sub) rs ≡ false
no_rule_covers x sub rs h =
    none_of (λ r. list_any (λ p. names p x) r.resources) (λ r. covers_one r.resources x sub)
    (λ r none. none_of (λ p. names p x) (λ p. covers p x sub) (uncovered x sub) r.resources none) rs h

no_rule_fits : (m : MatchResources) (namespaces : Namespaces) (q : Attributes) (rs : List Rule) → (length rs == 0) ≡ false
    → at_rules (namespace_answer m.namespace_selector namespaces q) rs (rules_answer Exact [] q) ≡ No
no_rule_fits m namespaces q [] h = absurd (true≢false h)
no_rule_fits m namespaces q (r ∷ rs) h = refl

-- ---- the namespace changes nothing in a no

either_way : {A : Type 0} (P : A → Type 0) (b : Bool) {x y : A} → P x → P y → P (if b then x else y)
either_way P true px py = px
either_way P false px py = py

no_rest : (passes : Bool) → (if passes then No else No) ≡ No
no_rest true = refl
no_rest false = refl

if_passed : (passes b : Bool) → at_namespace (passes_if b) (if passes then No else No) ≡ No
if_passed passes true = no_rest passes
if_passed passes false = refl

if_found : (passes : Bool) (o : Option Bool) → at_namespace (if_selected o) (if passes then No else No) ≡ No
if_found passes None = no_rest passes
if_found passes (Some b) = if_passed passes b

no_beside : (s : LabelSelector) (namespaces : Namespaces) (q : Attributes) (passes : Bool)
    → at_namespace (namespace_answer s namespaces q) (if passes then No else No) ≡ No
no_beside s namespaces q passes =
    either_way (λ n. at_namespace n (if passes then No else No) ≡ No) (is_outside_namespaces q) (no_rest passes)
    (either_way (λ n. at_namespace n (if passes then No else No) ≡ No) (is_empty s) (no_rest passes)
    (either_way (λ n. at_namespace n (if passes then No else No) ≡ No) (writes_namespace q) (if_passed passes _)
    (either_way (λ n. at_namespace n (if passes then No else No) ≡ No) (length q.namespace == 0) (no_rest passes) (if_found passes _))))

pub matches_only_if_it_may : (m : MatchResources) (namespaces : Namespaces) (q : Attributes) → may_match m q.resource.resource ≡ false
    → match_answer m namespaces q ≡ No
unfolding match_answer may_match
matches_only_if_it_may m namespaces q h =
    let x = q.resource.resource in
    let n = namespace_answer m.namespace_selector namespaces q in
    let passes = object_passes m.object_selector q in
    let parts = or_parts (length m.resource_rules == 0 || one_names m.resource_rules x) (one_names m.exclude_resource_rules x) h in
    let rules = or_parts (length m.resource_rules == 0) (one_names m.resource_rules x) parts.0 in
    let none = none_covered m.match_policy m.resource_rules q (no_rule_covers x q.subresource m.resource_rules rules.1) in
    let excludes = none_covered m.match_policy m.exclude_resource_rules q
    (no_rule_covers x q.subresource m.exclude_resource_rules parts.1) in
    ap (λ a. at_namespace n (if passes then at_excludes a (at_rules n m.resource_rules (rules_answer m.match_policy m.resource_rules q))
    else No)) excludes
    ∙ ap (λ a. at_namespace n (if passes then at_rules n m.resource_rules a else No)) none
    ∙ ap (λ a. at_namespace n (if passes then a else No)) (no_rule_fits m namespaces q m.resource_rules rules.0)
    ∙ no_beside m.namespace_selector namespaces q passes
