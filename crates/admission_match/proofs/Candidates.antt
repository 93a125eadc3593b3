-- A rule that fits a candidate may fit.
use Rattle.admission_match.proofs.Prelude.{◌≡◌, ◌∙◌, sym, refl, subst, ℕ, Bool, true, false, not, ◌&&◌, ◌||◌, ◌==◌, List, [], ◌∷◌, length, ◌⊎◌, inl, inr, codes, list_any, bytes_eq, bytes_eq-Decides, is_one_of, Attributes, GroupVersionResource, Rule, are, at_version, covers_one, fits, fits_other_version, fits_own_group, fits_request, fits_shared_group, has_or_any, is_candidate, is_cluster, is_or_any, is_shared, may_fit, scope_fits, sharing_groups, and_from, and_parts, cases_Bool, cond_both, false_from_ne_true, ne_eqb, not-true, not_from_false, arith, or_cases, or_left, or_right, true≢false}

equal : (xs ys : List ℕ) → bytes_eq xs ys ≡ true → xs ≡ ys
equal xs ys e = (bytes_eq-Decides xs ys).0 e

itself : (xs : List ℕ) → bytes_eq xs xs ≡ true
itself xs = (bytes_eq-Decides xs xs).1 refl

-- everything that passes one test passes another
any_weaker : {A : Type 0} (f g : A → Bool) (xs : List A) → ((x : A) → f x ≡ true → g x ≡ true) → list_any f xs ≡ true → list_any g xs ≡ true
any_weaker f g [] h e = e
any_weaker f g (x ∷ xs) h e =
    elim (or_cases (f x) (list_any f xs) e) [
      | inl here ↦ or_left (g x) (list_any g xs) (h x here)
      | inr later ↦ or_right (g x) (list_any g xs) (any_weaker f g xs h later)
    ]

-- one of the texts passes the test
any_of_one : (f : List ℕ → Bool) (t : List ℕ) (ts : List (List ℕ)) → is_one_of t ts ≡ true → f t ≡ true → list_any f ts ≡ true
any_of_one f t [] e h = e
any_of_one f t (u ∷ us) e h =
    elim (or_cases (bytes_eq t u) (is_one_of t us) e) [
      | inl here ↦ or_left (f u) (list_any f us) (subst (λ v. f v ≡ true) (equal t u here) h)
      | inr later ↦ or_right (f u) (list_any f us) (any_of_one f t us later h)
    ]

abbrev one : List ℕ
one = codes "v1"

abbrev without_namespace : Attributes → Bool
without_namespace q = length q.namespace == 0

-- the scope fits the request in this version
abbrev scope_at : Rule → Attributes → List ℕ → Bool
scope_at r q v = scope_fits r.scope (is_cluster q (at_version q.resource v))

no_core : (a b z n : Bool) → b ≡ false → ((a && b && z) || n) ≡ n
no_core a true z n e = absurd (true≢false e)
no_core true false z n e = refl
no_core false false z n e = refl

-- a version other than v1 has no different scope
no_scope_of_its_own : (r : Rule) (q : Attributes) (v : List ℕ) → bytes_eq v one ≡ false → scope_at r q v ≡ true → scope_fits r.scope (without_namespace q) ≡ true
no_scope_of_its_own r q v e fit =
    subst (λ b. scope_fits r.scope b ≡ true) (no_core (length q.resource.group == 0) (bytes_eq v one) (bytes_eq q.resource.resource (codes "namespaces")) (without_namespace q) e) fit

-- two versions differ if the first is v1 and they are unequal
other_than_v1 : (v w : List ℕ) → not (bytes_eq v w) ≡ true → bytes_eq v one ≡ true → not (bytes_eq w one) ≡ true
other_than_v1 v w other is_one =
    not_from_false (bytes_eq w one)
    (false_from_ne_true (bytes_eq w one)
    (λ same. true≢false (sym (itself v) ∙ subst (λ u. bytes_eq v u ≡ false) (equal w one same ∙ sym (equal v one is_one)) (not-true (bytes_eq v w) other))))

-- `*` includes a version other than the request's
at_star : (r : Rule) (q : Attributes) (v : List ℕ) → not (bytes_eq v q.resource.version) ≡ true → scope_at r q v ≡ true
    → (scope_fits r.scope (without_namespace q) || (not (bytes_eq q.resource.version one) && scope_at r q one)) ≡ true
at_star r q v other fit =
    elim (cases_Bool (bytes_eq v one)) [
      | inl is_one ↦
          or_right (scope_fits r.scope (without_namespace q)) (not (bytes_eq q.resource.version one) && scope_at r q one)
          (and_from (not (bytes_eq q.resource.version one)) (scope_at r q one) (other_than_v1 v q.resource.version other is_one)
          (subst (λ w. scope_at r q w ≡ true) (equal v one is_one) fit))
      | inr not_one ↦
          or_left (scope_fits r.scope (without_namespace q)) (not (bytes_eq q.resource.version one) && scope_at r q one)
          (no_scope_of_its_own r q v not_one fit)
    ]

-- a pattern that includes a version other than the request's
other_version : (r : Rule) (q : Attributes) (v : List ℕ) → not (bytes_eq v q.resource.version) ≡ true → scope_at r q v ≡ true → (p : List ℕ) → is_or_any p v ≡ true
    → fits_other_version r q p ≡ true
other_version r q v other fit p e =
    cond_both (bytes_eq p (codes "*")) (scope_fits r.scope (without_namespace q) || (not (bytes_eq q.resource.version one) && scope_at r q one))
    (not (bytes_eq p q.resource.version) && scope_at r q p) (λ b. b ≡ true) (λ star. at_star r q v other fit)
    (λ plain.
    elim (or_cases (bytes_eq p (codes "*")) (bytes_eq p v) e) [
      | inl star ↦ absurd (true≢false (sym star ∙ plain))
      | inr same ↦
          and_from (not (bytes_eq p q.resource.version)) (scope_at r q p) (subst (λ w. not (bytes_eq w q.resource.version) ≡ true) (sym (equal p v same)) other)
          (subst (λ w. scope_at r q w ≡ true) (sym (equal p v same)) fit)
    ])

-- a rule that fits another version of the request's resource
own_group : (r : Rule) (q : Attributes) (v : List ℕ) → not (bytes_eq v q.resource.version) ≡ true → scope_at r q v ≡ true → has_or_any r.api_groups q.resource.group ≡ true
    → has_or_any r.api_versions v ≡ true → fits_own_group r q ≡ true
own_group r q v other fit group version =
    and_from (has_or_any r.api_groups q.resource.group) (list_any (fits_other_version r q) r.api_versions) group
    (any_weaker (λ p. is_or_any p v) (fits_other_version r q) r.api_versions (other_version r q v other fit) version)

are_other : (g h a b : List ℕ) → are g h a b ≡ true → (bytes_eq h a ≡ true) ⊎ (bytes_eq h b ≡ true)
are_other g h a b e =
    elim (or_cases (bytes_eq g a && bytes_eq h b) (bytes_eq g b && bytes_eq h a) e) [
      | inl one ↦ inr (and_parts (bytes_eq g a) (bytes_eq h b) one).1
      | inr two ↦ inl (and_parts (bytes_eq g b) (bytes_eq h a) two).1
    ]

-- the two groups and the resource of a row
row : (g h a b x : List ℕ) (xs : List (List ℕ)) → (are g h a b && is_one_of x xs) ≡ true → ((h ≡ a) ⊎ (h ≡ b)) × (is_one_of x xs ≡ true)
row g h a b x xs e =
    let parts = and_parts (are g h a b) (is_one_of x xs) e in
    (elim (are_other g h a b parts.0) [ inl l ↦ inl (equal h a l) | inr r ↦ inr (equal h b r) ], parts.1)

abbrev SharesRow : List ℕ → List ℕ → Type 0
SharesRow h x = (is_one_of h sharing_groups ≡ true) × (bytes_eq x (codes "namespaces") ≡ false)

listed : (h a b : List ℕ) → (h ≡ a) ⊎ (h ≡ b) → is_one_of a sharing_groups ≡ true → is_one_of b sharing_groups ≡ true → is_one_of h sharing_groups ≡ true
listed h a b (inl l) p q = subst (λ k. is_one_of k sharing_groups ≡ true) (sym l) p
listed h a b (inr r) p q = subst (λ k. is_one_of k sharing_groups ≡ true) (sym r) q

-- no text of the list equals this one
differs : (x y : List ℕ) (xs : List (List ℕ)) → is_one_of x xs ≡ true → list_any (λ u. bytes_eq u y) xs ≡ false → bytes_eq x y ≡ false
differs x y xs e none =
    false_from_ne_true (bytes_eq x y) (λ same. true≢false (sym (any_of_one (λ u. bytes_eq u y) x xs e same) ∙ none))

-- groups that share a resource are listed, and the resource is not namespaces
shares : (g h x : List ℕ) → is_shared g h x ≡ true → SharesRow h x
unfolding is_shared
shares g h x e =
    let events : List (List ℕ) = codes "events" ∷ [] in
    let apps : List (List ℕ) = codes "deployments" ∷ codes "daemonsets" ∷ codes "replicasets" ∷ [] in
    let nets : List (List ℕ) = codes "ingresses" ∷ codes "networkpolicies" ∷ [] in
    elim (or_cases ((are g h [] (codes "events.k8s.io") && is_one_of x events) || (are g h (codes "extensions") (codes "apps") && is_one_of x apps)) (are g h (codes "extensions") (codes "networking.k8s.io") && is_one_of x nets) e) [
      | inl front ↦
          elim (or_cases (are g h [] (codes "events.k8s.io") && is_one_of x events) (are g h (codes "extensions") (codes "apps") && is_one_of x apps) front) [
            | inl first ↦
                let r = row g h [] (codes "events.k8s.io") x events first in
                (listed h [] (codes "events.k8s.io") r.0 refl refl, differs x (codes "namespaces") events r.1 refl)
            | inr second ↦
                let r = row g h (codes "extensions") (codes "apps") x apps second in
                (listed h (codes "extensions") (codes "apps") r.0 refl refl, differs x (codes "namespaces") apps r.1 refl)
          ]
      | inr third ↦
          let r = row g h (codes "extensions") (codes "networking.k8s.io") x nets third in
          (listed h (codes "extensions") (codes "networking.k8s.io") r.0 refl refl, differs x (codes "namespaces") nets r.1 refl)
    ]

has_some : (ps : List (List ℕ)) (v : List ℕ) → has_or_any ps v ≡ true → not (length ps == 0) ≡ true
has_some [] v e = absurd (true≢false (sym e))
has_some (p ∷ ps) v e = not_from_false (length (p ∷ ps) == 0) (ne_eqb (length (p ∷ ps)) 0 (λ h. omega arith))

-- the namespaces of the core group are not another resource
no_core_namespaces : (a b z n : Bool) → z ≡ false → ((a && b && z) || n) ≡ n
no_core_namespaces a b true n e = absurd (true≢false e)
no_core_namespaces true true false n e = refl
no_core_namespaces true false false n e = refl
no_core_namespaces false b false n e = refl

-- a rule that fits a group sharing the resource
shared_group : (r : Rule) (q : Attributes) (c : GroupVersionResource) → c.resource ≡ q.resource.resource → is_shared q.resource.group c.group q.resource.resource ≡ true
    → scope_fits r.scope (is_cluster q c) ≡ true → has_or_any r.api_groups c.group ≡ true → has_or_any r.api_versions c.version ≡ true → fits_shared_group r q ≡ true
shared_group r q c same shared fit group version =
    let facts : SharesRow c.group q.resource.resource = shares q.resource.group c.group q.resource.resource shared in
    let f = λ (h : List ℕ). is_shared q.resource.group h q.resource.resource && has_or_any r.api_groups h in
    and_from (scope_fits r.scope (without_namespace q) && not (length r.api_versions == 0)) (list_any f sharing_groups)
    (and_from (scope_fits r.scope (without_namespace q)) (not (length r.api_versions == 0))
    (subst (λ b. scope_fits r.scope b ≡ true)
    (no_core_namespaces (length c.group == 0) (bytes_eq c.version one) (bytes_eq c.resource (codes "namespaces")) (without_namespace q)
    (subst (λ x. bytes_eq x (codes "namespaces") ≡ false) (sym same) facts.1))
    fit)
    (has_some r.api_versions c.version version))
    (any_of_one f c.group sharing_groups facts.0 (and_from (is_shared q.resource.group c.group q.resource.resource) (has_or_any r.api_groups c.group) shared group))

-- facts about a rule that fits
record Fitting (r : Rule) (q : Attributes) (c : GroupVersionResource) : Type 0 where
  request : fits_request r q ≡ true
  scope : scope_fits r.scope (is_cluster q c) ≡ true
  group : has_or_any r.api_groups c.group ≡ true
  version : has_or_any r.api_versions c.version ≡ true
  resource : covers_one r.resources c.resource q.subresource ≡ true

fitting : (r : Rule) (q : Attributes) (c : GroupVersionResource) → fits r q c ≡ true → Fitting r q c
unfolding fits
fitting r q c e =
    let a = fits_request r q in
    let b = scope_fits r.scope (is_cluster q c) in
    let g = has_or_any r.api_groups c.group in
    let v = has_or_any r.api_versions c.version in
    let x = covers_one r.resources c.resource q.subresource in
    let p3 = and_parts (a && b && g && v) x e in
    let p2 = and_parts (a && b && g) v p3.0 in
    let p1 = and_parts (a && b) g p2.0 in
    let p0 = and_parts a b p1.0 in
    record { request = p0.0; scope = p0.1; group = p1.1; version = p2.1; resource = p3.1 }

pub candidates_may_fit : (r : Rule) (q : Attributes) (c : GroupVersionResource) → is_candidate q.resource c ≡ true → fits r q c ≡ true → may_fit r q ≡ true
unfolding is_candidate may_fit
candidates_may_fit r q c e f =
    let h : Fitting r q c = fitting r q c f in
    let x = q.resource in
    let parts = and_parts (bytes_eq c.resource x.resource) ((bytes_eq c.group x.group && not (bytes_eq c.version x.version)) || is_shared x.group c.group x.resource) e in
    let same : c.resource ≡ x.resource = equal c.resource x.resource parts.0 in
    and_from (fits_request r q && covers_one r.resources x.resource q.subresource) (fits_own_group r q || fits_shared_group r q)
    (and_from (fits_request r q) (covers_one r.resources x.resource q.subresource) h.request (subst (λ y. covers_one r.resources y q.subresource ≡ true) same h.resource))
    (elim (or_cases (bytes_eq c.group x.group && not (bytes_eq c.version x.version)) (is_shared x.group c.group x.resource) parts.1) [
      | inl own ↦
          let both = and_parts (bytes_eq c.group x.group) (not (bytes_eq c.version x.version)) own in
          let group : c.group ≡ x.group = equal c.group x.group both.0 in
          or_left (fits_own_group r q) (fits_shared_group r q)
          (own_group r q c.version both.1
          (subst (λ y. scope_fits r.scope (is_cluster q (record { group = x.group; version = c.version; resource = y })) ≡ true) same
          (subst (λ g. scope_fits r.scope (is_cluster q (record { group = g; version = c.version; resource = c.resource })) ≡ true) group h.scope))
          (subst (λ g. has_or_any r.api_groups g ≡ true) group h.group) h.version)
      | inr shared ↦ or_right (fits_own_group r q) (fits_shared_group r q) (shared_group r q c same shared h.scope h.group h.version)
    ])
