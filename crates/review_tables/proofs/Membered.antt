-- Where a key is among members, and the members without it.
use Rattle.value_table.proofs.Prelude.{◌≡◌, ℕ, zero, suc, ◌<◌, ◌≤◌, List, [], ◌∷◌, length, drop, get_or, Bool, true, false, cond, Ordering, Less, Greater, Some, None, refl, sym, ap, ◌∙◌, subst, arith, AllByRecursion}
use Rattle.std.proofs.Common.{ap₂, drop-cons, ◌+◌}
use Rattle.std.specs.declared.cmp.Ordering.TheVariants.{Equal}
use Rattle.std.specs.Ordering.{MatchOrdering, is_eq, nat_cmp, ordering_reverse, ordering_then}
use Rattle.std.specs.BTreeMap.{is_at}
use Rattle.std.specs.Borrow.{Bor}
use Rattle.std.specs.Cmp.{IsTotalOrder, ranked}
use Rattle.std.specs.Cmp.Lexicographic.{nat_list_cmp_total, slice_cmp}
use Rattle.std.specs.List.{remove}
use Rattle.std.specs.List.Sorted.{IsStrictlySortedBy}
use Rattle.std.specs.Map.{keys_of, lookup, remove_entry}
use Rattle.review_tables.specs.Reading.{PlacedEntry}
use Rattle.review_tables.specs.Members.{str_cmp, IsFirstKey, IsHere, NoneIs}
use Rattle.review_tables.specs.declared.placed.Placed.{Placed}

abbrev pub Key : Type 0
Key = Bor (List ℕ)

-- ---- the order of keys

pub str_cmp_total : IsTotalOrder str_cmp
str_cmp_total = record {
  antisymm = λ x y. nat_list_cmp_total.antisymm x.now y.now;
  trans = λ x y z. nat_list_cmp_total.trans x.now y.now z.now;
  congr = λ x y z. nat_list_cmp_total.congr x.now y.now z.now;
}

pub all_less : (x y : Key) (ks : List Key) → str_cmp x y ≡ Less → AllByRecursion (λ k. str_cmp y k ≡ Less) ks → AllByRecursion (λ k. str_cmp x k ≡ Less) ks
all_less x y [] h a = tt
all_less x y (k ∷ ks) h a = (str_cmp_total.trans x y k h a.0, all_less x y ks h a.1)

pub under : (k x : Key) → str_cmp k x ≡ Greater → str_cmp x k ≡ Less
under k x h = str_cmp_total.antisymm x k ∙ ap ordering_reverse h

-- ---- the first bytes

first_tells : (x y : ℕ) (o r : Ordering) → MatchOrdering o (x < y) (x ≡ y) (y < x) → (x ≡ y → ⊥) → o ≡ ordering_then o r
first_tells x y Less r m n = refl
first_tells x y Equal r m n = absurd (n m)
first_tells x y Greater r m n = refl

by_first : (us vs : List ℕ) → 0 < length us → 0 < length vs → (get_or us 0 0 ≡ get_or vs 0 0 → ⊥) → nat_cmp (get_or us 0 0) (get_or vs 0 0) ≡ slice_cmp nat_cmp us vs
by_first [] vs l m n = absurd (omega (arith, l))
by_first (x ∷ xs) [] l m n = absurd (omega (arith, m))
by_first (x ∷ xs) (y ∷ ys) l m n = first_tells x y (nat_cmp x y) (slice_cmp nat_cmp xs ys) (ranked x y (nat_cmp x y) refl) n

-- two texts are in the order of their first bytes if these differ
pub first_decides : (us vs ks ls : List ℕ) (r : Ordering) → us ≡ ks → vs ≡ ls → 0 < length us → 0 < length vs → (get_or us 0 0 ≡ get_or vs 0 0 → ⊥) → r ≡ nat_cmp (get_or us 0 0) (get_or vs 0 0) → r ≡ slice_cmp nat_cmp ks ls
first_decides us vs ks ls r e f l m n h = h ∙ by_first us vs l m n ∙ ap₂ (λ xs ys. slice_cmp nat_cmp xs ys) e f

-- ---- the search

-- the key is none of the first ones
abbrev pub NoneBefore : (Key → Ordering) → List PlacedEntry → ℕ → Type 0
NoneBefore c es zero = Unit {0}
NoneBefore c [] (suc i) = Unit {0}
NoneBefore c (e ∷ es) (suc i) = (is_eq (c e.0) ≡ false) × NoneBefore c es i

none_next : (c : Key → Ordering) (es : List PlacedEntry) (i : ℕ) (d : PlacedEntry) → NoneBefore c es i → i < length es → is_eq (c (get_or es i d).0) ≡ false → NoneBefore c es (suc i)
none_next c [] i d n l h = tt
none_next c (e ∷ es) zero d n l h = (h, tt)
none_next c (e ∷ es) (suc i) d n l h = (n.0, none_next c es i d n.1 (omega (arith, l)) h)

pub none_more : (c : Key → Ordering) (es : List PlacedEntry) (i j : ℕ) (d : PlacedEntry) → NoneBefore c es i → i < length es → i + 1 ≡ j → is_eq (c (get_or es i d).0) ≡ false → NoneBefore c es j
none_more c es i j d n l e h = let same : suc i ≡ j = omega (arith, e) in subst (NoneBefore c es) same (none_next c es i d n l h)

pub first_here : (c : Key → Ordering) (es : List PlacedEntry) (i : ℕ) (d : PlacedEntry) → NoneBefore c es i → i < length es → is_eq (c (get_or es i d).0) ≡ true → IsFirstKey c es i
first_here c [] i d n l h = absurd (omega (arith, l))
first_here c (e ∷ es) zero d n l h = h
first_here c (e ∷ es) (suc i) d n l h = (n.0, first_here c es i d n.1 (omega (arith, l)) h)

pub none_at_all : (c : Key → Ordering) (es : List PlacedEntry) (i : ℕ) → NoneBefore c es i → length es ≤ i → NoneIs c es
none_at_all c [] i n l = tt
none_at_all c (e ∷ es) zero n l = absurd (omega (arith, l))
none_at_all c (e ∷ es) (suc i) n l = (n.0, none_at_all c es i n.1 (omega (arith, l)))

-- ---- a key is looked up, or removed

same_test : {A : Type 0} (b : Bool) (x y : A) → b ≡ true → cond b x y ≡ x
same_test b x y e = ap (λ t. cond t x y) e

other_test : {A : Type 0} (b : Bool) (x y : A) → b ≡ false → cond b x y ≡ y
other_test b x y e = ap (λ t. cond t x y) e

found_at : (c : Key → Ordering) (es : List PlacedEntry) (i : ℕ) (d : PlacedEntry) → IsFirstKey c es i → Some (get_or es i d).1 ≡ lookup (is_at c) es
found_at c [] i d h = absurd h
found_at c (e ∷ es) zero d h = sym (same_test _ _ _ h)
found_at c (e ∷ es) (suc i) d h = found_at c es i d h.1 ∙ sym (other_test _ _ _ h.0)

pub found_value : (c : Key → Ordering) (es : List PlacedEntry) (i : ℕ) (d : PlacedEntry) → IsHere c es i → Some (get_or es i d).1 ≡ lookup (is_at c) es
found_value c es i d h = found_at c es i d h.first

removed_at : (c : Key → Ordering) (es : List PlacedEntry) (i : ℕ) → IsFirstKey c es i → remove es i ≡ remove_entry (is_at c) es
removed_at c [] i h = absurd h
removed_at c (e ∷ es) zero h = sym (same_test _ _ _ h)
removed_at c (e ∷ es) (suc i) h = ap (λ l. e ∷ l) (removed_at c es i h.1) ∙ sym (other_test _ _ _ h.0)

pub removed_here : (c : Key → Ordering) (es : List PlacedEntry) (i : ℕ) → IsHere c es i → remove es i ≡ remove_entry (is_at c) es
removed_here c es i h = removed_at c es i h.first

pub missing : (c : Key → Ordering) (es : List PlacedEntry) → NoneIs c es → None ≡ lookup (is_at c) es
missing c [] h = refl
missing c (e ∷ es) h = missing c es h.1 ∙ sym (other_test _ _ _ h.0)

pub not_removed : (c : Key → Ordering) (es : List PlacedEntry) → NoneIs c es → es ≡ remove_entry (is_at c) es
not_removed c [] h = refl
not_removed c (e ∷ es) h = ap (λ l. e ∷ l) (not_removed c es h.1) ∙ sym (other_test _ _ _ h.0)

kept_below : (x : Key) (es : List PlacedEntry) (i : ℕ) → AllByRecursion (λ y. str_cmp x y ≡ Less) (keys_of es) → AllByRecursion (λ y. str_cmp x y ≡ Less) (keys_of (remove es i))
kept_below x [] zero a = a
kept_below x [] (suc i) a = a
kept_below x (e ∷ es) zero a = a.1
kept_below x (e ∷ es) (suc i) a = (a.0, kept_below x es i a.1)

-- the keys still ascend after a member is removed
pub sorted_removed : (es : List PlacedEntry) (i : ℕ) → IsStrictlySortedBy str_cmp (keys_of es) → IsStrictlySortedBy str_cmp (keys_of (remove es i))
unfolding IsStrictlySortedBy
sorted_removed [] zero s = s
sorted_removed [] (suc i) s = s
sorted_removed (e ∷ es) zero s = s.1
sorted_removed (e ∷ es) (suc i) s = (kept_below e.0 es i s.0, sorted_removed es i s.1)

-- ---- the members in turn

pub next_member : (es us : List PlacedEntry) (i : ℕ) (d : PlacedEntry) (p : Placed) → us ≡ es → i < length us → (get_or us i d).1 ≡ Some p → drop i es ≡ ((get_or us i d).0, Some p) ∷ drop (i + 1) es
next_member es us i d p e l h =
    let next : suc i ≡ i + 1 = omega arith in
    ap (λ zs. drop i zs) (sym e) ∙ drop-cons us i d l ∙ ap₂ (λ v zs. ((get_or us i d).0, v) ∷ zs) h (ap₂ (λ n zs. drop n zs) next e)
