-- Members that are inserted one after another: only the order of those with one key matters.
use Rattle.value_table.proofs.Prelude.{◌≡◌, suc, ◌+◌, List, [], ◌∷◌, ◌++◌, length, drop, get_or, Bool, true, false, cond, not, Ordering, Less, Greater, Option, refl, sym, ap, subst, ◌∙◌, arith, true≢false, AllByRecursion}
use Rattle.std.proofs.Common.{ap₂, ◌&&◌, if◌then◌else◌, MatchBool}
use Rattle.std.specs.declared.cmp.Ordering.TheVariants.{Equal}
use Rattle.std.specs.Ordering.{match_ordering, is_eq, is_lt, ordering_reverse}
use Rattle.std.specs.BTreeMap.{insert_entry}
use Rattle.std.specs.List.{filter}
use Rattle.std.specs.List.Retain.{DedupsFrom, IsDeduped}
use Rattle.std.specs.List.Sorted.{ties, IsSortedBy, IsStable, IsStrictlySortedBy}
use Rattle.std.specs.Map.{keys_of}
use Rattle.review_tables.specs.Reading.{PlacedEntry}
use Rattle.review_tables.specs.declared.placed.Placed.{Placed}
use Rattle.review_tables.specs.Members.{str_cmp, inserted, TakesValue}
use Rattle.review_tables.proofs.Membered.{Key, str_cmp_total, all_less, under}

-- ---- one after another

-- one more member
abbrev pub put : List PlacedEntry → PlacedEntry → List PlacedEntry
put es m = insert_entry str_cmp es m.0 m.1

pub inserted_more : (es ms ns : List PlacedEntry) → inserted es (ms ++ ns) ≡ inserted (inserted es ms) ns
inserted_more es [] ns = refl
inserted_more es (m ∷ ms) ns = inserted_more (put es m) ms ns

-- ---- two members with different keys may be exchanged

-- how a member is put in, by how its key compares with the first
put_at : (e : PlacedEntry) (es : List PlacedEntry) (m : PlacedEntry) (o : Ordering) → str_cmp m.0 e.0 ≡ o → put (e ∷ es) m ≡ match_ordering o (m ∷ e ∷ es) ((e.0, m.1) ∷ es) (e ∷ put es m)
put_at e es m o h = ap (λ r. match_ordering r (m ∷ e ∷ es) ((e.0, m.1) ∷ es) (e ∷ put es m)) h

turned_over : (x y : Key) (o : Ordering) → str_cmp x y ≡ o → str_cmp y x ≡ ordering_reverse o
turned_over x y o h = str_cmp_total.antisymm y x ∙ ap ordering_reverse h

-- into no entries
none_exchanged : (a b : PlacedEntry) (o : Ordering) → str_cmp b.0 a.0 ≡ o → (o ≡ Equal → ⊥) → put (a ∷ []) b ≡ put (b ∷ []) a
none_exchanged a b Less h d = put_at a [] b Less h ∙ sym (put_at b [] a Greater (turned_over b.0 a.0 Less h))
none_exchanged a b Equal h d = absurd (d refl)
none_exchanged a b Greater h d = put_at a [] b Greater h ∙ sym (put_at b [] a Less (turned_over b.0 a.0 Greater h))

-- both before the first entry
both_before : (e a b : PlacedEntry) (es : List PlacedEntry) (o : Ordering) → str_cmp a.0 e.0 ≡ Less → str_cmp b.0 e.0 ≡ Less → str_cmp b.0 a.0 ≡ o → (o ≡ Equal → ⊥)
    → put (a ∷ e ∷ es) b ≡ put (b ∷ e ∷ es) a
both_before e a b es Less f g h d = put_at a (e ∷ es) b Less h ∙ sym (put_at b (e ∷ es) a Greater (turned_over b.0 a.0 Less h) ∙ ap (λ l. b ∷ l) (put_at e es a Less f))
both_before e a b es Equal f g h d = absurd (d refl)
both_before e a b es Greater f g h d = put_at a (e ∷ es) b Greater h ∙ ap (λ l. a ∷ l) (put_at e es b Less g) ∙ sym (put_at b (e ∷ es) a Less (turned_over b.0 a.0 Greater h))

-- the first before the first entry, the second at it
before_at : (e a b : PlacedEntry) (es : List PlacedEntry) → str_cmp a.0 e.0 ≡ Less → str_cmp b.0 e.0 ≡ Equal → put (put (e ∷ es) a) b ≡ put (put (e ∷ es) b) a
before_at e a b es f g =
    let above : str_cmp b.0 a.0 ≡ Greater = str_cmp_total.congr b.0 e.0 a.0 g ∙ turned_over a.0 e.0 Less f in
    ap (λ l. put l b) (put_at e es a Less f) ∙ put_at a (e ∷ es) b Greater above ∙ ap (λ l. a ∷ l) (put_at e es b Equal g)
    ∙ sym (ap (λ l. put l a) (put_at e es b Equal g) ∙ put_at (e.0, b.1) es a Less f)

-- the first before the first entry, the second after it
before_behind : (e a b : PlacedEntry) (es : List PlacedEntry) → str_cmp a.0 e.0 ≡ Less → str_cmp b.0 e.0 ≡ Greater → put (put (e ∷ es) a) b ≡ put (put (e ∷ es) b) a
before_behind e a b es f g =
    let above : str_cmp b.0 a.0 ≡ Greater = turned_over a.0 b.0 Less (str_cmp_total.trans a.0 e.0 b.0 f (turned_over b.0 e.0 Greater g)) in
    ap (λ l. put l b) (put_at e es a Less f) ∙ put_at a (e ∷ es) b Greater above ∙ ap (λ l. a ∷ l) (put_at e es b Greater g)
    ∙ sym (ap (λ l. put l a) (put_at e es b Greater g) ∙ put_at e (put es b) a Less f)

-- the first at the first entry, the second after it
at_behind : (e a b : PlacedEntry) (es : List PlacedEntry) → str_cmp a.0 e.0 ≡ Equal → str_cmp b.0 e.0 ≡ Greater → put (put (e ∷ es) a) b ≡ put (put (e ∷ es) b) a
at_behind e a b es f g =
    ap (λ l. put l b) (put_at e es a Equal f) ∙ put_at (e.0, a.1) es b Greater g
    ∙ sym (ap (λ l. put l a) (put_at e es b Greater g) ∙ put_at e (put es b) a Equal f)

by_first : (e a b : PlacedEntry) (es : List PlacedEntry) (o r : Ordering) → str_cmp a.0 e.0 ≡ o → str_cmp b.0 e.0 ≡ r → (str_cmp b.0 a.0 ≡ Equal → ⊥)
    → put (put es a) b ≡ put (put es b) a → put (put (e ∷ es) a) b ≡ put (put (e ∷ es) b) a
by_first e a b es Less Less f g d h = ap (λ l. put l b) (put_at e es a Less f) ∙ both_before e a b es (str_cmp b.0 a.0) f g refl d ∙ sym (ap (λ l. put l a) (put_at e es b Less g))
by_first e a b es Less Equal f g d h = before_at e a b es f g
by_first e a b es Less Greater f g d h = before_behind e a b es f g
by_first e a b es Equal Less f g d h = sym (before_at e b a es g f)
by_first e a b es Equal Equal f g d h = absurd (d (str_cmp_total.congr b.0 e.0 a.0 g ∙ turned_over a.0 e.0 Equal f))
by_first e a b es Equal Greater f g d h = at_behind e a b es f g
by_first e a b es Greater Less f g d h = sym (before_behind e b a es g f)
by_first e a b es Greater Equal f g d h = sym (at_behind e b a es g f)
by_first e a b es Greater Greater f g d h =
    ap (λ l. put l b) (put_at e es a Greater f) ∙ put_at e (put es a) b Greater g ∙ ap (λ l. e ∷ l) h
    ∙ sym (ap (λ l. put l a) (put_at e es b Greater g) ∙ put_at e (put es b) a Greater f)

exchanged : (es : List PlacedEntry) (a b : PlacedEntry) → (str_cmp b.0 a.0 ≡ Equal → ⊥) → put (put es a) b ≡ put (put es b) a
exchanged [] a b d = none_exchanged a b (str_cmp b.0 a.0) refl d
exchanged (e ∷ es) a b d = by_first e a b es (str_cmp a.0 e.0) (str_cmp b.0 e.0) refl refl d (exchanged es a b d)

-- no member has the key of m
abbrev Lack : PlacedEntry → List PlacedEntry → Type 0
Lack m ms = AllByRecursion (λ n. str_cmp m.0 n.0 ≡ Equal → ⊥) ms

-- a member may be put before those with other keys
put_first : (es ms ns : List PlacedEntry) (m : PlacedEntry) → Lack m ms → inserted es (ms ++ m ∷ ns) ≡ inserted es (m ∷ (ms ++ ns))
put_first es [] ns m a = refl
put_first es (x ∷ ms) ns m a = put_first (put es x) ms ns m a.1 ∙ ap (λ l. inserted l (ms ++ ns)) (exchanged es x m a.0)

-- ---- the members with one key

abbrev tie : PlacedEntry → PlacedEntry → Bool
tie = ties (λ x y. is_lt (str_cmp x.0 y.0))

with_test : {A : Type 0} (b c : Bool) (x y : A) → b ≡ c → cond b x y ≡ cond c x y
with_test b c x y e = ap (λ t. cond t x y) e

tie_is : (x y : PlacedEntry) (o : Ordering) → str_cmp x.0 y.0 ≡ o → tie x y ≡ is_eq o
tie_is x y Less h = ap₂ (λ p q. not (is_lt p) && not (is_lt q)) h (turned_over x.0 y.0 Less h)
tie_is x y Equal h = ap₂ (λ p q. not (is_lt p) && not (is_lt q)) h (turned_over x.0 y.0 Equal h)
tie_is x y Greater h = ap₂ (λ p q. not (is_lt p) && not (is_lt q)) h (turned_over x.0 y.0 Greater h)

other : (o : Ordering) → (o ≡ Equal → ⊥) → is_eq o ≡ false
other Less d = refl
other Equal d = absurd (d refl)
other Greater d = refl

equal_of : (o : Ordering) → is_eq o ≡ true → o ≡ Equal
equal_of Less h = absurd (true≢false (sym h))
equal_of Equal h = refl
equal_of Greater h = absurd (true≢false (sym h))

turned_to_itself : (o : Ordering) → o ≡ ordering_reverse o → o ≡ Equal
turned_to_itself Less h = absurd (true≢false (ap is_lt h))
turned_to_itself Equal h = refl
turned_to_itself Greater h = absurd (true≢false (sym (ap is_lt h)))

ties_itself : (x : PlacedEntry) → tie x x ≡ true
ties_itself x = tie_is x x Equal (turned_to_itself (str_cmp x.0 x.0) (str_cmp_total.antisymm x.0 x.0))

-- a member with another key is not among those with this one
left_out : (z m : PlacedEntry) (ms ns : List PlacedEntry) → tie z m ≡ false → filter (tie z) (ms ++ m ∷ ns) ≡ filter (tie z) (ms ++ ns)
left_out z m [] ns h = with_test (tie z m) false _ _ h
left_out z m (x ∷ ms) ns h = ap (λ l. cond (tie z x) (x ∷ l) l) (left_out z m ms ns h)

-- the first member with this key is the first of those
stands_first : (z m : PlacedEntry) (ms ns : List PlacedEntry) → tie z m ≡ true → Lack m ms → filter (tie z) (ms ++ m ∷ ns) ≡ m ∷ filter (tie z) (ms ++ ns)
stands_first z m [] ns h a = with_test (tie z m) true _ _ h
stands_first z m (x ∷ ms) ns h a =
    let same : str_cmp z.0 m.0 ≡ Equal = equal_of (str_cmp z.0 m.0) (sym (tie_is z m (str_cmp z.0 m.0) refl) ∙ h) in
    let apart : tie z x ≡ false = tie_is z x (str_cmp m.0 x.0) (str_cmp_total.congr z.0 m.0 x.0 same) ∙ other (str_cmp m.0 x.0) a.0 in
    with_test (tie z x) false _ _ apart ∙ stands_first z m ms ns h a.1 ∙ ap (λ l. m ∷ l) (sym (with_test (tie z x) false _ _ apart))

-- ---- members in two orders that agree on those with one key

abbrev pub SameGroups : List PlacedEntry → List PlacedEntry → Type 0
SameGroups ms ns = (z : PlacedEntry) → filter (tie z) ms ≡ filter (tie z) ns

-- the first member with a key, and those around it
record FirstOf (m : PlacedEntry) (ns : List PlacedEntry) : Type 0 where
  front : List PlacedEntry
  back : List PlacedEntry
  is : ns ≡ front ++ m ∷ back
  lack : Lack m front

head_of : (x y : PlacedEntry) (xs ys : List PlacedEntry) → x ∷ xs ≡ y ∷ ys → x ≡ y
head_of x y xs ys h = ap (λ l. get_or l 0 x) h

tail_of : (x y : PlacedEntry) (xs ys : List PlacedEntry) → x ∷ xs ≡ y ∷ ys → xs ≡ ys
tail_of x y xs ys h = ap (λ l. drop 1 l) h

later : (m n : PlacedEntry) (ms ns : List PlacedEntry) (o : Ordering) → str_cmp m.0 n.0 ≡ o → is_eq o ≡ false → filter (tie m) (n ∷ ns) ≡ m ∷ ms
    → (filter (tie m) ns ≡ m ∷ ms → FirstOf m ns) → FirstOf m (n ∷ ns)
later m n ms ns o h d e f =
    let r = f (sym (with_test (tie m n) false _ _ (tie_is m n o h ∙ d)) ∙ e) in
    record { front = n ∷ r.front; back = r.back; is = ap (λ l. n ∷ l) r.is; lack = ((λ q. true≢false (sym (ap is_eq (sym h ∙ q)) ∙ d)), r.lack) }

by_order : (m n : PlacedEntry) (ms ns : List PlacedEntry) (o : Ordering) → str_cmp m.0 n.0 ≡ o → filter (tie m) (n ∷ ns) ≡ m ∷ ms
    → (filter (tie m) ns ≡ m ∷ ms → FirstOf m ns) → FirstOf m (n ∷ ns)
by_order m n ms ns Less h e f = later m n ms ns Less h refl e f
by_order m n ms ns Equal h e f =
    let here : n ∷ filter (tie m) ns ≡ m ∷ ms = sym (with_test (tie m n) true _ _ (tie_is m n Equal h)) ∙ e in
    record { front = []; back = ns; is = ap (λ x. x ∷ ns) (head_of n m _ _ here); lack = tt }
by_order m n ms ns Greater h e f = later m n ms ns Greater h refl e f

first_of : (m : PlacedEntry) (ms ns : List PlacedEntry) → filter (tie m) ns ≡ m ∷ ms → FirstOf m ns
first_of m ms [] e = absurd (omega (arith, ap length e))
first_of m ms (n ∷ ns) e = by_order m n ms ns (str_cmp m.0 n.0) refl e (first_of m ms ns)

by_tie : (z m : PlacedEntry) (ms front back : List PlacedEntry) (b : Bool) → tie z m ≡ b → filter (tie z) (m ∷ ms) ≡ filter (tie z) (front ++ m ∷ back) → Lack m front
    → filter (tie z) ms ≡ filter (tie z) (front ++ back)
by_tie z m ms front back true h g a = tail_of m m _ _ (sym (with_test (tie z m) true _ _ h) ∙ g ∙ stands_first z m front back h a)
by_tie z m ms front back false h g a = sym (with_test (tie z m) false _ _ h) ∙ g ∙ left_out z m front back h

-- the same without the first member
without_first : (m : PlacedEntry) (ms front back : List PlacedEntry) → SameGroups (m ∷ ms) (front ++ m ∷ back) → Lack m front → SameGroups ms (front ++ back)
without_first m ms front back g a z = by_tie z m ms front back (tie z m) refl (g z) a

same_inserted : (es ms ns : List PlacedEntry) → SameGroups ms ns → inserted es ms ≡ inserted es ns
same_inserted es [] [] g = refl
same_inserted es [] (n ∷ ns) g = let some : n ∷ filter (tie n) ns ≡ [] = sym (with_test (tie n n) true _ _ (ties_itself n)) ∙ sym (g n) in absurd (omega (arith, ap length some))
same_inserted es (m ∷ ms) ns g =
    let r = first_of m (filter (tie m) ms) ns (sym (g m) ∙ with_test (tie m m) true _ _ (ties_itself m)) in
    let rest : SameGroups ms (r.front ++ r.back) = without_first m ms r.front r.back (λ z. g z ∙ ap (filter (tie z)) r.is) r.lack in
    same_inserted (put es m) ms (r.front ++ r.back) rest ∙ sym (ap (inserted es) r.is ∙ put_first es r.front r.back m r.lack)

-- a stable order gives the same entries
pub stable_inserted : (es ms ns : List PlacedEntry) → IsStable (λ x y. str_cmp x.0 y.0) ms ns → inserted es ns ≡ inserted es ms
stable_inserted es ms ns g = same_inserted es ns ms g

-- ---- the keys ascend

abbrev pub Ascend : List PlacedEntry → Type 0
Ascend es = IsStrictlySortedBy str_cmp (keys_of es)

put_among : (P : Key → Type 0) (e m : PlacedEntry) (es : List PlacedEntry) (o : Ordering) → P m.0 → AllByRecursion P (keys_of (e ∷ es)) → AllByRecursion P (keys_of (put es m))
    → AllByRecursion P (keys_of (match_ordering o (m ∷ e ∷ es) ((e.0, m.1) ∷ es) (e ∷ put es m)))
put_among P e m es Less p a b = (p, a)
put_among P e m es Equal p a b = a
put_among P e m es Greater p a b = (a.0, b)

all_put : (P : Key → Type 0) (es : List PlacedEntry) (m : PlacedEntry) → P m.0 → AllByRecursion P (keys_of es) → AllByRecursion P (keys_of (put es m))
all_put P [] m p a = (p, tt)
all_put P (e ∷ es) m p a = put_among P e m es (str_cmp m.0 e.0) p a (all_put P es m p a.1)

put_ascends_by : (e m : PlacedEntry) (es : List PlacedEntry) (o : Ordering) → str_cmp m.0 e.0 ≡ o → Ascend (e ∷ es) → Ascend (put es m)
    → Ascend (match_ordering o (m ∷ e ∷ es) ((e.0, m.1) ∷ es) (e ∷ put es m))
unfolding IsStrictlySortedBy
put_ascends_by e m es Less h s t = ((h, all_less m.0 e.0 (keys_of es) h s.0), s)
put_ascends_by e m es Equal h s t = s
put_ascends_by e m es Greater h s t = (all_put (λ y. str_cmp e.0 y ≡ Less) es m (under m.0 e.0 h) s.0, t)

put_ascends : (es : List PlacedEntry) (m : PlacedEntry) → Ascend es → Ascend (put es m)
unfolding IsStrictlySortedBy
put_ascends [] m s = (tt, tt)
put_ascends (e ∷ es) m s = put_ascends_by e m es (str_cmp m.0 e.0) refl s (put_ascends es m s.1)

inserted_ascends : (es ms : List PlacedEntry) → Ascend es → Ascend (inserted es ms)
inserted_ascends es [] s = s
inserted_ascends es (m ∷ ms) s = inserted_ascends (put es m) ms (put_ascends es m s)

pub all_ascend : (ms : List PlacedEntry) → Ascend (inserted [] ms)
unfolding IsStrictlySortedBy
all_ascend ms = inserted_ascends [] ms tt

-- ---- members in the order of their keys, of which the last of equal keys counts

abbrev pub below : PlacedEntry → PlacedEntry → Bool
below x y = is_lt (str_cmp x.0 y.0)

-- no key is below the one before it
abbrev Rise : PlacedEntry → List PlacedEntry → Type 0
Rise x [] = Unit {0}
Rise x (m ∷ ms) = (below m x ≡ false) × Rise m ms

rise : (x : PlacedEntry) (ms : List PlacedEntry) → IsSortedBy below (x ∷ ms) → Rise x ms
rise x [] h = tt
rise x (m ∷ ms) h = (
  h 0 x (omega arith) (omega arith),
  rise m ms (λ k d l u. let next : suc k + 1 ≡ suc (k + 1) = omega arith in
      subst (λ n. below (get_or (x ∷ m ∷ ms) n d) (get_or (m ∷ ms) k d) ≡ false) next (h (suc k) d (omega arith) (omega (arith, u)))),
)

above_by : (k x m : PlacedEntry) (o : Ordering) → str_cmp m.0 x.0 ≡ o → is_lt o ≡ false → str_cmp x.0 k.0 ≡ Greater → str_cmp m.0 k.0 ≡ Greater
above_by k x m Less e h g = absurd (true≢false h)
above_by k x m Equal e h g = str_cmp_total.congr m.0 x.0 k.0 e ∙ g
above_by k x m Greater e h g = turned_over k.0 m.0 Less (str_cmp_total.trans k.0 x.0 m.0 (turned_over x.0 k.0 Greater g) (turned_over m.0 x.0 Greater e))

all_above : (k x : PlacedEntry) (ms : List PlacedEntry) → Rise x ms → str_cmp x.0 k.0 ≡ Greater → AllByRecursion (λ m. str_cmp m.0 k.0 ≡ Greater) ms
all_above k x [] r g = tt
all_above k x (m ∷ ms) r g = let h = above_by k x m (str_cmp m.0 x.0) refl r.0 g in (h, all_above k m ms r.1 h)

behind : (k : PlacedEntry) (es ms : List PlacedEntry) → AllByRecursion (λ m. str_cmp m.0 k.0 ≡ Greater) ms → inserted (k ∷ es) ms ≡ k ∷ inserted es ms
behind k es [] a = refl
behind k es (m ∷ ms) a = ap (λ l. inserted l ms) (put_at k es m Greater a.0) ∙ behind k (put es m) ms a.1

-- what follows a member follows one with the same key
follows : (x k : PlacedEntry) (ms : List PlacedEntry) (v : Option Placed) → str_cmp x.0 k.0 ≡ Equal → Rise x ms → Rise (k.0, v) ms
follows x k [] v e r = tt
follows x k (m ∷ ms) v e r =
    let same : str_cmp m.0 k.0 ≡ str_cmp m.0 x.0 = str_cmp_total.antisymm m.0 k.0 ∙ ap ordering_reverse (str_cmp_total.congr k.0 x.0 m.0 (turned_over x.0 k.0 Equal e)) ∙ sym (str_cmp_total.antisymm m.0 x.0) in
    (ap is_lt same ∙ r.0, r.1)

-- a call of the test at members that are these
pub told_of : (x k x' k' a b a' b' : PlacedEntry) (same : Bool) → TakesValue a b same a' b' → a ≡ x → b ≡ k → a' ≡ x' → b' ≡ k' → TakesValue x k same x' k'
told_of x k x' k' a b a' b' same h e f g i = record {
  told = h.told ∙ ap₂ (λ p q. is_eq (str_cmp p.0 q.0)) e f;
  later = sym g ∙ h.later ∙ e;
  kept = sym i ∙ h.kept ∙ ap₂ (λ p q. if same then (q.0, p.1) else q) e f;
}

-- each call answers as `TakesValue` says
module _ {S : Type 0} (R : S → PlacedEntry → PlacedEntry → Bool → S → PlacedEntry → PlacedEntry → Type 0) (told : (s : S) (x k : PlacedEntry) (b : Bool) (t : S) (x' k' : PlacedEntry) → R s x k b t x' k' → TakesValue x k b x' k') where
  deduped_by : (s : S) (x k : PlacedEntry) (xs ys : List PlacedEntry) (o : Ordering) → str_cmp x.0 k.0 ≡ o → Rise k (x ∷ xs) → DedupsFrom R s k (x ∷ xs) ys
      → ((s : S) (k : PlacedEntry) (ys : List PlacedEntry) → Rise k xs → DedupsFrom R s k xs ys → inserted (k ∷ []) xs ≡ ys) → inserted (k ∷ []) (x ∷ xs) ≡ ys
  deduped_by s x k xs ys Less e r d f = absurd (true≢false (sym (ap is_lt e) ∙ r.0))
  deduped_by s x k xs ys Equal e r d f =
      let says = told s x k d.0 d.1 d.2 d.3 d.4 in
      let same : d.0 ≡ true = says.told ∙ ap is_eq e in
      let kept : d.3 ≡ (k.0, x.1) = says.kept ∙ ap (λ b. if b then (k.0, x.1) else k) same in
      let rest = subst (λ b. MatchBool b (DedupsFrom R d.1 d.3 xs ys) ((zs : List PlacedEntry) × DedupsFrom R d.1 d.2 xs zs × (ys ≡ d.3 ∷ zs))) same d.5 in
      ap (λ l. inserted l xs) (put_at k [] x Equal e) ∙ ap (λ q. inserted (q ∷ []) xs) (sym kept)
      ∙ f d.1 d.3 ys (subst (λ q. Rise q xs) (sym kept) (follows x k xs x.1 e r.1)) rest
  deduped_by s x k xs ys Greater e r d f =
      let says = told s x k d.0 d.1 d.2 d.3 d.4 in
      let apart : d.0 ≡ false = says.told ∙ ap is_eq e in
      let kept : d.3 ≡ k = says.kept ∙ ap (λ b. if b then (k.0, x.1) else k) apart in
      let rest = subst (λ b. MatchBool b (DedupsFrom R d.1 d.3 xs ys) ((zs : List PlacedEntry) × DedupsFrom R d.1 d.2 xs zs × (ys ≡ d.3 ∷ zs))) apart d.5 in
      ap (λ l. inserted l xs) (put_at k [] x Greater e) ∙ behind k (x ∷ []) xs (all_above k x xs r.1 e)
      ∙ ap (λ l. k ∷ l) (ap (λ q. inserted (q ∷ []) xs) (sym says.later) ∙ f d.1 d.2 rest.0 (subst (λ q. Rise q xs) (sym says.later) r.1) rest.1)
      ∙ ap (λ q. q ∷ rest.0) (sym kept) ∙ sym rest.2

  deduped_from : (xs : List PlacedEntry) (s : S) (k : PlacedEntry) (ys : List PlacedEntry) → Rise k xs → DedupsFrom R s k xs ys → inserted (k ∷ []) xs ≡ ys
  deduped_from [] s k ys r d = sym d
  deduped_from (x ∷ xs) s k ys r d = deduped_by s x k xs ys (str_cmp x.0 k.0) refl r d (deduped_from xs)

  pub deduped : (s : S) (xs ys : List PlacedEntry) → IsSortedBy below xs → IsDeduped R s xs ys → inserted [] xs ≡ ys
  deduped s [] ys h d = sym d.told
  deduped s (x ∷ xs) ys h d = deduped_from xs s x ys (rise x xs h) d.told

-- ---- one more member

-- one more member after those that were inserted
pub one_more : (ms all : List PlacedEntry) (m : PlacedEntry) → all ≡ ms ++ m ∷ [] → inserted [] all ≡ insert_entry str_cmp (inserted [] ms) m.0 m.1
one_more ms all m h = ap (inserted []) h ∙ inserted_more [] ms (m ∷ [])
