-- Rules that do not cover the resource of a request neither fit it nor may fit it.
use Rattle.admission_match.proofs.Prelude.{◌≡◌, ◌∙◌, refl, ap, Bool, true, false, ◌&&◌, ◌||◌, List, [], ◌∷◌, list_any, Attributes, MatchPolicy, Exact, Equivalent, Rule, SomeFits, NoneFits, NotKnown, covers_one, fits, fits_own_group, fits_request, fits_shared_group, has_or_any, is_cluster, may_fit, or_from, or_parts, rules_answer, scope_fits, if◌then◌else◌}

last_false : (a b c d e : Bool) → e ≡ false → (a && b && c && d && e) ≡ false
last_false false b c d e h = refl
last_false true false c d e h = refl
last_false true true false d e h = refl
last_false true true true false e h = refl
last_false true true true true e h = h

second_false : (a b c : Bool) → b ≡ false → (a && b && c) ≡ false
second_false false b c h = refl
second_false true b c h = ap (λ x. x && c) h

abbrev covers_it : Attributes → Rule → Bool
covers_it q r = covers_one r.resources q.resource.resource q.subresource

does_not_fit : (q : Attributes) (r : Rule) → covers_it q r ≡ false → fits r q q.resource ≡ false
unfolding fits
does_not_fit q r h =
    last_false (fits_request r q) (scope_fits r.scope (is_cluster q q.resource)) (has_or_any r.api_groups q.resource.group) (has_or_any r.api_versions q.resource.version)
    (covers_it q r) h

cannot_fit : (q : Attributes) (r : Rule) → covers_it q r ≡ false → may_fit r q ≡ false
unfolding may_fit
cannot_fit q r h = second_false (fits_request r q) (covers_it q r) (fits_own_group r q || fits_shared_group r q) h

none_fit : (q : Attributes) (rs : List Rule) → list_any (covers_it q) rs ≡ false → list_any (λ r. fits r q q.resource) rs ≡ false
none_fit q [] h = refl
none_fit q (r ∷ rs) h =
    let parts = or_parts (covers_it q r) (list_any (covers_it q) rs) h in
    or_from (fits r q q.resource) (list_any (λ r. fits r q q.resource) rs) (does_not_fit q r parts.0) (none_fit q rs parts.1)

none_can : (q : Attributes) (rs : List Rule) → list_any (covers_it q) rs ≡ false → list_any (λ r. may_fit r q) rs ≡ false
none_can q [] h = refl
none_can q (r ∷ rs) h =
    let parts = or_parts (covers_it q r) (list_any (covers_it q) rs) h in
    or_from (may_fit r q) (list_any (λ r. may_fit r q) rs) (cannot_fit q r parts.0) (none_can q rs parts.1)

pub none_covered : (policy : MatchPolicy) (rs : List Rule) (q : Attributes) → list_any (λ r. covers_one r.resources q.resource.resource q.subresource) rs ≡ false → rules_answer policy rs q ≡ NoneFits
none_covered Exact rs q h = ap (λ b. if b then SomeFits else NoneFits) (none_fit q rs h)
none_covered Equivalent rs q h =
    ap (λ b. if b then SomeFits else (if list_any (λ r. may_fit r q) rs then NotKnown else NoneFits)) (none_fit q rs h)
    ∙ ap (λ b. if b then NotKnown else NoneFits) (none_can q rs h)
