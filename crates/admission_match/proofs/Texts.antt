-- Lists of texts and rules of the code, as the clauses see them.
use Rattle.admission_match.proofs.Prelude.{◌≡◌, refl, ap, ℕ, Bool, true, false, ◌||◌, List, [], ◌∷◌, map, string_bytes, bytes_eq, String, Global, list_any, is_one_of, Attributes, GroupVersionResource, Rule, CodeRule, covers, covers_one, fits, fits_other_version, has_or_any, is_or_any, may_fit, rule_view}

any_of_map : {A B : Type 0} (p : B → Bool) (f : A → B) (xs : List A) → list_any (λ x. p (f x)) xs ≡ list_any p (map f xs)
any_of_map p f [] = refl
any_of_map p f (x ∷ xs) = ap (λ b. p (f x) || b) (any_of_map p f xs)

pub has_or_any_in_texts : (t : List ℕ) (ps : List (String Global)) → list_any (λ p. is_or_any (string_bytes p) t) ps ≡ has_or_any (map string_bytes ps) t
has_or_any_in_texts t ps = any_of_map (λ p. is_or_any p t) string_bytes ps

pub one_of_texts : (v : List ℕ) (ts : List (String Global)) → list_any (λ t. bytes_eq v (string_bytes t)) ts ≡ is_one_of v (map string_bytes ts)
one_of_texts v ts = any_of_map (bytes_eq v) string_bytes ts

pub covers_one_in_texts : (x sub : List ℕ) (ps : List (String Global)) → list_any (λ p. covers (string_bytes p) x sub) ps ≡ covers_one (map string_bytes ps) x sub
covers_one_in_texts x sub ps = any_of_map (λ p. covers p x sub) string_bytes ps

pub versions_in_texts : (r : Rule) (q : Attributes) (ps : List (String Global)) → list_any (λ p. fits_other_version r q (string_bytes p)) ps ≡ list_any (fits_other_version r q) (map string_bytes ps)
versions_in_texts r q ps = any_of_map (fits_other_version r q) string_bytes ps

pub fit_in_views : (q : Attributes) (x : GroupVersionResource) (rs : List CodeRule) → list_any (λ r. fits (rule_view r) q x) rs ≡ list_any (λ r. fits r q x) (map rule_view rs)
fit_in_views q x rs = any_of_map (λ r. fits r q x) rule_view rs

pub may_fit_in_views : (q : Attributes) (rs : List CodeRule) → list_any (λ r. may_fit (rule_view r) q) rs ≡ list_any (λ r. may_fit r q) (map rule_view rs)
may_fit_in_views q rs = any_of_map (λ r. may_fit r q) rule_view rs

pub covered_in_views : (x sub : List ℕ) (rs : List CodeRule) → list_any (λ r. covers_one (rule_view r).resources x sub) rs ≡ list_any (λ r. covers_one r.resources x sub) (map rule_view rs)
covered_in_views x sub rs = any_of_map (λ r. covers_one r.resources x sub) rule_view rs

pub or_none : (b : Bool) → (b || false) ≡ b
or_none true = refl
or_none false = refl
