-- Lists and entries that are printed one by one.
use Rattle.std.proofs.Common.{◌≡◌, ◌+◌, ◌<◌, ◌≤◌, ◌++◌, ◌∷◌, ℕ, Bool, false, List, [], None, append-nil, append_assoc, drop, get_or, length, map, refl, sym, ap, ◌∙◌, codes}
use Rattle.std.proofs.Math.ListN.{drop_of_length-le}
use Rattle.std.proofs.lemmas.List.{drop_more}
use Rattle.cel_reader.specs.Tree.{entries, trees, view}
use Rattle.cel_reader.specs.declared.expr.Expr.{Expr}
unfoldable use Rattle.cel_writer.specs.Printed.{entries_listed, listed, printed_in}
use Rattle.cel_writer.specs.Printed.{separator}

abbrev pub list_left : Bool → List Expr → List ℕ
list_left first xs = listed first (trees (map view xs))

abbrev pub entries_left : Bool → List (Expr × Expr) → List ℕ
entries_left first xs = entries_listed first (entries (map (λ e. (view e.0, view e.1)) xs))

regrouped : (out a b c : List ℕ) → ((out ++ a) ++ b) ++ c ≡ out ++ ((a ++ b) ++ c)
regrouped out a b c = ap (λ (l : List ℕ). l ++ c) (append_assoc out a b) ∙ append_assoc out (a ++ b) c

one_listed : (first : Bool) (x : Expr) (xs : List Expr) → list_left first (x ∷ xs) ≡ separator first ++ printed_in None (view x) ++ list_left false xs
unfolding listed printed_in
one_listed first x xs = refl

none_listed : (first : Bool) → list_left first [] ≡ []
unfolding listed printed_in
none_listed first = refl

-- one more item is printed
pub list_goes : (xs : List Expr) (i : ℕ) (x : Expr) (first : Bool) (out before after whole : List ℕ) → i < length xs → x ≡ get_or xs i x → before ≡ out ++ separator first
    → after ≡ before ++ printed_in None (view x) → out ++ list_left first (drop i xs) ≡ whole → after ++ list_left false (drop (i + 1) xs) ≡ whole
list_goes xs i x first out before after whole below is one two so_far =
    let rest : drop i xs ≡ x ∷ drop (i + 1) xs = drop_more xs i x below ∙ ap (λ y. y ∷ drop (i + 1) xs) (sym is) in
    ap (λ (l : List ℕ). l ++ list_left false (drop (i + 1) xs)) (two ∙ ap (λ (l : List ℕ). l ++ printed_in None (view x)) one)
    ∙ regrouped out (separator first) (printed_in None (view x)) (list_left false (drop (i + 1) xs))
    ∙ ap (λ (l : List ℕ). out ++ l) (sym (one_listed first x (drop (i + 1) xs)) ∙ ap (list_left first) (sym rest))
    ∙ so_far

pub list_ends : (xs : List Expr) (i : ℕ) (first : Bool) (out whole : List ℕ) → length xs ≤ i → out ++ list_left first (drop i xs) ≡ whole → out ≡ whole
list_ends xs i first out whole past so_far =
    sym (append-nil out) ∙ ap (λ (l : List ℕ). out ++ l) (sym (none_listed first) ∙ ap (list_left first) (sym (drop_of_length-le xs past))) ∙ so_far

-- ---- entries

entry_regrouped : (out a b c d e : List ℕ) → ((((out ++ a) ++ b) ++ c) ++ d) ++ e ≡ out ++ ((((a ++ b) ++ c) ++ d) ++ e)
entry_regrouped out a b c d e = simp append_assoc

one_entry : (first : Bool) (x : Expr × Expr) (xs : List (Expr × Expr))
    → entries_left first (x ∷ xs) ≡ separator first ++ printed_in None (view x.0) ++ codes ": " ++ printed_in None (view x.1) ++ entries_left false xs
unfolding entries_listed printed_in
one_entry first x xs = refl

no_entry : (first : Bool) → entries_left first [] ≡ []
unfolding entries_listed printed_in
no_entry first = refl

pub entries_go : (xs : List (Expr × Expr)) (i : ℕ) (x : Expr × Expr) (first : Bool) (out a b c d whole : List ℕ) → i < length xs → x ≡ get_or xs i x → a ≡ out ++ separator first
    → b ≡ a ++ printed_in None (view x.0) → c ≡ b ++ codes ": " → d ≡ c ++ printed_in None (view x.1) → out ++ entries_left first (drop i xs) ≡ whole
    → d ++ entries_left false (drop (i + 1) xs) ≡ whole
entries_go xs i x first out a b c d whole below is one two three four so_far =
    let rest : drop i xs ≡ x ∷ drop (i + 1) xs = drop_more xs i x below ∙ ap (λ y. y ∷ drop (i + 1) xs) (sym is) in
    let made : d ≡ (((out ++ separator first) ++ printed_in None (view x.0)) ++ codes ": ") ++ printed_in None (view x.1) =
    four ∙ ap (λ (l : List ℕ). l ++ printed_in None (view x.1)) (three ∙ ap (λ (l : List ℕ). l ++ codes ": ") (two ∙ ap (λ (l : List ℕ). l ++ printed_in None (view x.0)) one)) in
    ap (λ (l : List ℕ). l ++ entries_left false (drop (i + 1) xs)) made
    ∙ entry_regrouped out (separator first) (printed_in None (view x.0)) (codes ": ") (printed_in None (view x.1)) (entries_left false (drop (i + 1) xs))
    ∙ ap (λ (l : List ℕ). out ++ l) (sym (one_entry first x (drop (i + 1) xs)) ∙ ap (entries_left first) (sym rest))
    ∙ so_far

pub entries_end : (xs : List (Expr × Expr)) (i : ℕ) (first : Bool) (out whole : List ℕ) → length xs ≤ i → out ++ entries_left first (drop i xs) ≡ whole → out ≡ whole
entries_end xs i first out whole past so_far =
    sym (append-nil out) ∙ ap (λ (l : List ℕ). out ++ l) (sym (no_entry first) ∙ ap (entries_left first) (sym (drop_of_length-le xs past))) ∙ so_far
