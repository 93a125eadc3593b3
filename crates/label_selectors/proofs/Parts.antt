-- The requirements in a selector's two lists, and texts in a list.
use Rattle.label_selectors.proofs.Prelude.{◌≡◌, ◌∙◌, ap, refl, Bool, ◌&&◌, ◌||◌, ◌==◌, ◌+◌, ℕ, List, [], ◌∷◌, length, list_all, list_any, list_all-append, list_all-map, length-append, length-map, arith, nat_tests, map, string_bytes, bytes_eq, String, Global, is_label_value, Labels, CodeLabelSelector, fits, is_empty, is_one_of, label_requirement, label_view, requirement_view, requirements, selector_view, selects}

-- all requirements fit if those of both lists do
pub all_of_parts : (s : CodeLabelSelector) (ls : Labels)
    → selects (selector_view s) ls ≡ (list_all (λ l. fits ls (label_requirement (label_view l))) s.match_labels.items && list_all (λ r. fits ls (requirement_view r)) s.match_expressions.items)
all_of_parts s ls = simp (list_all-append, list_all-map)

length_of_parts : (s : CodeLabelSelector) → length (requirements (selector_view s)) ≡ length s.match_labels.items + length s.match_expressions.items
length_of_parts s = simp (length-append, length-map)

none_of_both : (a b : ℕ) → (a + b == 0) ≡ (a == 0 && b == 0)
none_of_both a b = grind (arith, nat_tests)

-- there is no requirement if both lists are empty
pub none_of_parts : (s : CodeLabelSelector) → is_empty (selector_view s) ≡ (length s.match_labels.items == 0 && length s.match_expressions.items == 0)
none_of_parts s =
    ap (λ n. n == 0) (length_of_parts s) ∙ none_of_both (length s.match_labels.items) (length s.match_expressions.items)

any_of_map : {A B : Type 0} (p : B → Bool) (f : A → B) (xs : List A) → list_any (λ x. p (f x)) xs ≡ list_any p (map f xs)
any_of_map p f [] = refl
any_of_map p f (x ∷ xs) = ap (λ b. p (f x) || b) (any_of_map p f xs)

pub any_of_texts : (v : List ℕ) (ts : List (String Global)) → list_any (λ t. bytes_eq v (string_bytes t)) ts ≡ is_one_of v (map string_bytes ts)
any_of_texts v ts = any_of_map (bytes_eq v) string_bytes ts

all_of_map : {A B : Type 0} (p : B → Bool) (f : A → B) (xs : List A) → list_all (λ x. p (f x)) xs ≡ list_all p (map f xs)
all_of_map p f [] = refl
all_of_map p f (x ∷ xs) = ap (λ b. p (f x) && b) (all_of_map p f xs)

pub values_of_texts : (ts : List (String Global)) → list_all (λ t. is_label_value (string_bytes t)) ts ≡ list_all is_label_value (map string_bytes ts)
values_of_texts ts = all_of_map is_label_value string_bytes ts
