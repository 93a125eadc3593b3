-- Names that are put into a set one after another.
use Rattle.verdicts.proofs.Prelude.{◌≡◌, ℕ, ◌+◌, ◌<◌, Bool, true, false, not, List, [], ◌∷◌, ◌++◌, map, take, drop, length, get_or, string_bytes, refl, sym, ap, ◌∙◌, arith, ◌&&◌, Bor, BTreeSet, contains, IsEmpty, Updates, slice_cmp, list_any, is_eq, nat_cmp, bytes_eq, nat_list_eq_equiv, map-append, take-append-drop, take_more, list_any-append, is_eq-slice_cmp, CodeNamedExpression, NamedExpression, named_view, are_distinct}
use Rattle.verdicts.proofs.Lists.{name_in_views}

-- the names that a set borrows
abbrev pub Names : Type 0
Names = BTreeSet (Bor (List ℕ))

abbrev pub has_key : Names → Bor (List ℕ) → Bool
has_key names key = contains (λ x y. slice_cmp nat_cmp x.now y.now) names key

-- the set holds the names of these parts, and no others
abbrev pub HasNames : Names → List CodeNamedExpression → Type 0
HasNames names ns = (key : Bor (List ℕ)) → has_key names key ≡ list_any (λ n. bytes_eq key.now (string_bytes n.name)) ns

and_none : (b : Bool) → b && false ≡ false
and_none b = grind arith

-- one more name at the end
distinct-push : (ns : List NamedExpression) (n : NamedExpression) → are_distinct (ns ++ n ∷ []) ≡ not (list_any (λ m. bytes_eq n.name m.name) ns) && are_distinct ns
distinct-push [] n = refl
distinct-push (m ∷ ns) n = grind (arith, distinct-push ns n, list_any-append, nat_list_eq_equiv)

twice_by : (n : NamedExpression) (ns rest : List NamedExpression) (hit : Bool) → list_any (λ m. bytes_eq n.name m.name) ns ≡ hit → not hit && are_distinct ns ≡ false
    → (are_distinct ns ≡ false → are_distinct (ns ++ rest) ≡ false)
    → not (list_any (λ m. bytes_eq n.name m.name) (ns ++ rest)) && are_distinct (ns ++ rest) ≡ false
twice_by n ns rest hit is twice later = grind (arith, list_any-append, and_none)

-- a name that occurs twice in a prefix occurs twice in the list
twice_in_front : (ns rest : List NamedExpression) → are_distinct ns ≡ false → are_distinct (ns ++ rest) ≡ false
twice_in_front [] rest twice = cc
twice_in_front (n ∷ ns) rest twice = twice_by n ns rest (list_any (λ m. bytes_eq n.name m.name) ns) refl twice (twice_in_front ns rest)

pub names_none : (names : Names) → IsEmpty names → HasNames names []
names_none names none key = ap (λ ks. list_any (λ k. is_eq (slice_cmp nat_cmp key.now k.now)) ks) none

-- the elements before the next place
front_next : (all : List CodeNamedExpression) (i : ℕ) (x : CodeNamedExpression) → i < length all → x ≡ get_or all i x → take (i + 1) all ≡ take i all ++ x ∷ []
front_next all i x within is = take_more all i x within ∙ ap (λ y. take i all ++ y ∷ []) (sym is)

pub names_more : (all : List CodeNamedExpression) (i : ℕ) (x : CodeNamedExpression) (key : Bor (List ℕ)) (names more : Names) → i < length all → x ≡ get_or all i x
    → key.now ≡ string_bytes x.name
    → HasNames names (take i all) → Updates (λ x y. slice_cmp nat_cmp x.now y.now) names more key true → HasNames more (take (i + 1) all)
names_more all i x key names more within is named has updates other =
    let same = is_eq-slice_cmp key.now other.now ∙ nat_list_eq_equiv.symm key.now other.now ∙ ap (bytes_eq other.now) named in
    grind (arith, same, updates.0 other, has other, list_any-append, front_next all i x within is)

-- whether the names are still distinct with the next one
pub distinct_more : (all : List CodeNamedExpression) (i : ℕ) (x : CodeNamedExpression) (key : Bor (List ℕ)) (names : Names) (added : Bool) → i < length all
    → x ≡ get_or all i x → key.now ≡ string_bytes x.name
    → HasNames names (take i all) → are_distinct (map named_view (take i all)) ≡ true → added ≡ not (has_key names key)
    → are_distinct (map named_view (take (i + 1) all)) ≡ added
distinct_more all i x key names added within is named has distinct says =
    let behind : list_any (λ m. bytes_eq (string_bytes x.name) m.name) (map named_view (take i all)) ≡ has_key names key =
    sym (name_in_views (string_bytes x.name) (take i all)) ∙ ap (λ bs. list_any (λ n. bytes_eq bs (string_bytes n.name)) (take i all)) (sym named)
    ∙ sym (has key) in
    ap (λ ns. are_distinct (map named_view ns)) (front_next all i x within is)
    ∙ ap are_distinct (map-append named_view (take i all) (x ∷ []))
    ∙ distinct-push (map named_view (take i all)) (named_view x)
    ∙ (λ j. not (behind j) && distinct j)
    ∙ (grind arith)
    ∙ sym says

-- a name occurred earlier
pub distinct_stop : (all : List CodeNamedExpression) (i : ℕ) → are_distinct (map named_view (take i all)) ≡ false → false ≡ are_distinct (map named_view all)
distinct_stop all i twice =
    sym (twice_in_front (map named_view (take i all)) (map named_view (drop i all)) twice)
    ∙ ap are_distinct (sym (map-append named_view (take i all) (drop i all)))
    ∙ ap (λ ns. are_distinct (map named_view ns)) (take-append-drop i all)
