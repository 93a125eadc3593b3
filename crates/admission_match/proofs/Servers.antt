-- Answers that are the same on every server.
use Rattle.admission_match.proofs.Prelude.{◌≡◌, ◌≢◌, ◌∙◌, sym, ap, refl, Bool, true, false, ◌||◌, List, [], ◌∷◌, list_any, All, All-head, All-tail, Attributes, GroupVersionResource, Namespaces, MatchResources, MatchPolicy, Exact, Equivalent, Rule, RulesAnswer, SomeFits, NoneFits, NotKnown, Answer, NamespaceAnswer, Passes, KeptOut, NoLabels, No, Unknown, at_excludes, at_namespace, at_rules, fits, is_candidate, may_fit, match_answer, namespace_answer, object_passes, rules_answer, served_answer, server_answer, some_fits, if◌then◌else◌, false_from_ne_true, or_from, or_parts, true≢false}
use Rattle.admission_match.proofs.Candidates.{candidates_may_fit}

-- if no rule may fit, no rule fits a candidate
none_fits : (rs : List Rule) (q : Attributes) (c : GroupVersionResource) → is_candidate q.resource c ≡ true → list_any (λ r. may_fit r q) rs ≡ false → some_fits rs q c ≡ false
none_fits [] q c is_one none = refl
none_fits (r ∷ rs) q c is_one none =
    let parts = or_parts (may_fit r q) (list_any (λ r. may_fit r q) rs) none in
    or_from (fits r q c) (some_fits rs q c)
    (false_from_ne_true (fits r q c) (λ e. true≢false (sym (candidates_may_fit r q c is_one e) ∙ parts.0)))
    (none_fits rs q c is_one parts.1)

-- and no rule fits any of them
none_served : (served : List GroupVersionResource) (rs : List Rule) (q : Attributes) → All (λ c. is_candidate q.resource c ≡ true) served → list_any (λ r. may_fit r q) rs ≡ false
    → list_any (some_fits rs q) served ≡ false
none_served [] rs q all none = refl
none_served (c ∷ cs) rs q all none =
    or_from (some_fits rs q c) (list_any (some_fits rs q) cs)
    (none_fits rs q c (All-head (λ d. is_candidate q.resource d ≡ true) c cs all) none)
    (none_served cs rs q (All-tail (λ d. is_candidate q.resource d ≡ true) c cs all) none)

-- the answer for three tests: a rule fits, one may fit, one fits a resource that is served
abbrev told : Bool → Bool → RulesAnswer
told own may = if own then SomeFits else (if may then NotKnown else NoneFits)

abbrev serving : Bool → Bool → RulesAnswer
serving own other = if own || other then SomeFits else NoneFits

same_told : (own may other : Bool) → (may ≡ false → other ≡ false) → told own may ≢ NotKnown → serving own other ≡ told own may
same_told true may other h k = refl
same_told false true other h k = absurd (k refl)
same_told false false other h k = ap (λ b. if b then SomeFits else NoneFits) (h refl)

same_rules : (served : List GroupVersionResource) (policy : MatchPolicy) (rs : List Rule) (q : Attributes) → All (λ c. is_candidate q.resource c ≡ true) served
    → rules_answer policy rs q ≢ NotKnown → served_answer served policy rs q ≡ rules_answer policy rs q
same_rules served Exact rs q all k = refl
same_rules served Equivalent rs q all k =
    same_told (some_fits rs q q.resource) (list_any (λ r. may_fit r q) rs) (list_any (some_fits rs q) served) (none_served served rs q all) k

same_at_rules : (n : NamespaceAnswer) (rs : List Rule) (a b : RulesAnswer) → (a ≢ NotKnown → b ≡ a) → at_rules n rs a ≢ Unknown → at_rules n rs b ≡ at_rules n rs a
same_at_rules n [] a b h k = refl
same_at_rules n (r ∷ rs) SomeFits b h k = ap (at_rules n (r ∷ rs)) (h (λ e. cc))
same_at_rules n (r ∷ rs) NoneFits b h k = ap (at_rules n (r ∷ rs)) (h (λ e. cc))
same_at_rules n (r ∷ rs) NotKnown b h k = absurd (k refl)

same_at_excludes : (a b : RulesAnswer) (x y : Answer) → (a ≢ NotKnown → b ≡ a) → (x ≢ Unknown → y ≡ x) → at_excludes a x ≢ Unknown → at_excludes b y ≡ at_excludes a x
same_at_excludes SomeFits b x y h l k = ap (λ c. at_excludes c y) (h (λ e. cc))
same_at_excludes NoneFits b x y h l k = ap (λ c. at_excludes c y) (h (λ e. cc)) ∙ l k
same_at_excludes NotKnown b x y h l k = absurd (k refl)

same_at_objects : (o : Bool) (x y : Answer) → (x ≢ Unknown → y ≡ x) → (if o then x else No) ≢ Unknown → (if o then y else No) ≡ (if o then x else No)
same_at_objects true x y l k = l k
same_at_objects false x y l k = refl

same_at_namespace : (n : NamespaceAnswer) (x y : Answer) → (x ≢ Unknown → y ≡ x) → at_namespace n x ≢ Unknown → at_namespace n y ≡ at_namespace n x
same_at_namespace Passes x y l k = l k
same_at_namespace KeptOut x y l k = refl
same_at_namespace (NoLabels t) x y l k = l k

pub every_server_agrees : (served : List GroupVersionResource) (m : MatchResources) (namespaces : Namespaces) (q : Attributes) → All (λ c. is_candidate q.resource c ≡ true) served
    → match_answer m namespaces q ≢ Unknown → server_answer served m namespaces q ≡ match_answer m namespaces q
unfolding match_answer
every_server_agrees served m namespaces q all k =
    let n : NamespaceAnswer = namespace_answer m.namespace_selector namespaces q in
    let own : RulesAnswer = rules_answer m.match_policy m.resource_rules q in
    let own' : RulesAnswer = served_answer served m.match_policy m.resource_rules q in
    let out : RulesAnswer = rules_answer m.match_policy m.exclude_resource_rules q in
    let out' : RulesAnswer = served_answer served m.match_policy m.exclude_resource_rules q in
    let inner = at_excludes out (at_rules n m.resource_rules own) in
    let inner' = at_excludes out' (at_rules n m.resource_rules own') in
    same_at_namespace n (if object_passes m.object_selector q then inner else No) (if object_passes m.object_selector q then inner' else No)
    (same_at_objects (object_passes m.object_selector q) inner inner'
    (same_at_excludes out out' (at_rules n m.resource_rules own) (at_rules n m.resource_rules own')
    (same_rules served m.match_policy m.exclude_resource_rules q all)
    (same_at_rules n m.resource_rules own own' (same_rules served m.match_policy m.resource_rules q all))))
    k
