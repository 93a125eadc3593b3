-- The objects do not depend on the order of the items.
use Rattle.cluster_state.proofs.Prelude.{◌≡◌, ◌∙◌, ◌∷◌, ◌++◌, ◌||◌, ◌&&◌, ℕ, Bool, true, false, List, [], Option, Some, None, Result, Ok, Err, ap, cond, refl, sym, Equal, Greater, Less, Ordering, bytes_eq, insert_entry, is_eq, is_eq-slice_cmp, is_some, lookup, match_ordering, nat_cmp, slice_cmp, if◌then◌else◌, Collection, Item, Named, Objects, Refusal, duplicate_item, is_collection, is_taken, with_item, with_items}
use Rattle.serde_json.specs.Data as json
use Rattle.std.proofs.Common.{subst, true≢false}
use Rattle.std.proofs.lemmas.Cmp.{nat_list_cmp_total}
use Rattle.std.proofs.lemmas.Slice.Eq.{bytes_eq-Decides}
use Rattle.std.specs.Ordering.{ordering_reverse}
use mathlib.Core.Path.{fun_ext}

-- ---- the order of names

flip_less : (a b : List ℕ) → slice_cmp nat_cmp a b ≡ Less → slice_cmp nat_cmp b a ≡ Greater
flip_less a b l = nat_list_cmp_total.antisymm b a ∙ ap ordering_reverse l

flip_greater : (a b : List ℕ) → slice_cmp nat_cmp a b ≡ Greater → slice_cmp nat_cmp b a ≡ Less
flip_greater a b g = nat_list_cmp_total.antisymm b a ∙ ap ordering_reverse g

after_equal : (a b e : List ℕ) → slice_cmp nat_cmp a b ≡ Less → slice_cmp nat_cmp a e ≡ Equal → slice_cmp nat_cmp b e ≡ Greater
after_equal a b e l q = flip_less e b (sym (nat_list_cmp_total.congr a e b q) ∙ l)

after_greater : (a b e : List ℕ) → slice_cmp nat_cmp a b ≡ Less → slice_cmp nat_cmp a e ≡ Greater → slice_cmp nat_cmp b e ≡ Greater
after_greater a b e l g = flip_less e b (nat_list_cmp_total.trans e a b (flip_greater a e g) l)

-- ---- two names are inserted

-- at the head, compared with the first entry
at_head : (a b : List ℕ) (x y : json.Data) (e : List ℕ × json.Data) (es : Named) (o : Ordering) → slice_cmp nat_cmp a b ≡ Less
    → slice_cmp nat_cmp a e.0 ≡ Less
    → (a, x) ∷ match_ordering o ((b, y) ∷ e ∷ es) ((e.0, y) ∷ es) (e ∷ insert_entry (slice_cmp nat_cmp) es b y)
    ≡ insert_entry (slice_cmp nat_cmp) (match_ordering o ((b, y) ∷ e ∷ es) ((e.0, y) ∷ es) (e ∷ insert_entry (slice_cmp nat_cmp) es b y)) a x
at_head a b x y e es Less l h = rw l refl
at_head a b x y e es Equal l h = rw h refl
at_head a b x y e es Greater l h = rw h refl

swap_step : (e : List ℕ × json.Data) (es : Named) (a b : List ℕ) (x y : json.Data) → slice_cmp nat_cmp a b ≡ Less
    → insert_entry (slice_cmp nat_cmp) (insert_entry (slice_cmp nat_cmp) es a x) b y
    ≡ insert_entry (slice_cmp nat_cmp) (insert_entry (slice_cmp nat_cmp) es b y) a x
    → (o : Ordering) → slice_cmp nat_cmp a e.0 ≡ o
    → insert_entry (slice_cmp nat_cmp) (insert_entry (slice_cmp nat_cmp) (e ∷ es) a x) b y
    ≡ insert_entry (slice_cmp nat_cmp) (insert_entry (slice_cmp nat_cmp) (e ∷ es) b y) a x
swap_step e es a b x y l rest Less h =
    ap (λ o. insert_entry (slice_cmp nat_cmp) (match_ordering o ((a, x) ∷ e ∷ es) ((e.0, x) ∷ es) (e ∷ insert_entry (slice_cmp nat_cmp) es a x)) b y) h
    ∙ ap (λ o. match_ordering o ((b, y) ∷ (a, x) ∷ e ∷ es) ((a, y) ∷ e ∷ es) ((a, x) ∷ insert_entry (slice_cmp nat_cmp) (e ∷ es) b y)) (flip_less a b l)
    ∙ at_head a b x y e es (slice_cmp nat_cmp b e.0) l h
swap_step e es a b x y l rest Equal h =
    ap (λ o. insert_entry (slice_cmp nat_cmp) (match_ordering o ((a, x) ∷ e ∷ es) ((e.0, x) ∷ es) (e ∷ insert_entry (slice_cmp nat_cmp) es a x)) b y) h
    ∙ ap (λ o. match_ordering o ((b, y) ∷ (e.0, x) ∷ es) ((e.0, y) ∷ es) ((e.0, x) ∷ insert_entry (slice_cmp nat_cmp) es b y)) (after_equal a b e.0 l h)
    ∙ sym
    (ap (λ o. insert_entry (slice_cmp nat_cmp) (match_ordering o ((b, y) ∷ e ∷ es) ((e.0, y) ∷ es) (e ∷ insert_entry (slice_cmp nat_cmp) es b y)) a x) (after_equal a b e.0 l h)
    ∙ ap (λ o. match_ordering o ((a, x) ∷ e ∷ insert_entry (slice_cmp nat_cmp) es b y) ((e.0, x) ∷ insert_entry (slice_cmp nat_cmp) es b y) (e ∷ insert_entry (slice_cmp nat_cmp) (insert_entry (slice_cmp nat_cmp) es b y) a x)) h)
swap_step e es a b x y l rest Greater h =
    ap (λ o. insert_entry (slice_cmp nat_cmp) (match_ordering o ((a, x) ∷ e ∷ es) ((e.0, x) ∷ es) (e ∷ insert_entry (slice_cmp nat_cmp) es a x)) b y) h
    ∙ ap (λ o. match_ordering o ((b, y) ∷ e ∷ insert_entry (slice_cmp nat_cmp) es a x) ((e.0, y) ∷ insert_entry (slice_cmp nat_cmp) es a x) (e ∷ insert_entry (slice_cmp nat_cmp) (insert_entry (slice_cmp nat_cmp) es a x) b y)) (after_greater a b e.0 l h)
    ∙ ap (λ r. e ∷ r) rest
    ∙ sym
    (ap (λ o. insert_entry (slice_cmp nat_cmp) (match_ordering o ((b, y) ∷ e ∷ es) ((e.0, y) ∷ es) (e ∷ insert_entry (slice_cmp nat_cmp) es b y)) a x) (after_greater a b e.0 l h)
    ∙ ap (λ o. match_ordering o ((a, x) ∷ e ∷ insert_entry (slice_cmp nat_cmp) es b y) ((e.0, x) ∷ insert_entry (slice_cmp nat_cmp) es b y) (e ∷ insert_entry (slice_cmp nat_cmp) (insert_entry (slice_cmp nat_cmp) es b y) a x)) h)

less_swaps : (es : Named) (a b : List ℕ) (x y : json.Data) → slice_cmp nat_cmp a b ≡ Less
    → insert_entry (slice_cmp nat_cmp) (insert_entry (slice_cmp nat_cmp) es a x) b y
    ≡ insert_entry (slice_cmp nat_cmp) (insert_entry (slice_cmp nat_cmp) es b y) a x
less_swaps [] a b x y l = rw (flip_less a b l, l) refl
less_swaps (e ∷ es) a b x y l = swap_step e es a b x y l (less_swaps es a b x y l) (slice_cmp nat_cmp a e.0) refl

-- two different names may be exchanged
insert_swaps : (es : Named) (a b : List ℕ) (x y : json.Data) → bytes_eq b a ≡ false
    → insert_entry (slice_cmp nat_cmp) (insert_entry (slice_cmp nat_cmp) es a x) b y
    ≡ insert_entry (slice_cmp nat_cmp) (insert_entry (slice_cmp nat_cmp) es b y) a x
insert_swaps es a b x y other = by (slice_cmp nat_cmp a b) refl
  where
    by : (o : Ordering) → slice_cmp nat_cmp a b ≡ o
        → insert_entry (slice_cmp nat_cmp) (insert_entry (slice_cmp nat_cmp) es a x) b y
        ≡ insert_entry (slice_cmp nat_cmp) (insert_entry (slice_cmp nat_cmp) es b y) a x
    by Less h = less_swaps es a b x y h
    by Equal h =
        absurd (true≢false (sym (ap is_eq (nat_list_cmp_total.antisymm b a ∙ ap ordering_reverse h)) ∙ is_eq-slice_cmp b a ∙ other))
    by Greater h = sym (less_swaps es b a y x (flip_greater a b h))

-- ---- names that are found

some_or : {A : Type 0} (b : Bool) (x : A) (o : Option A) → is_some (cond b (Some x) o) ≡ (b || is_some o)
some_or true x o = refl
some_or false x o = refl

or_twice : (b r : Bool) → (b || r) ≡ (b || (b || r))
or_twice true r = refl
or_twice false r = refl

pub or_swaps : (a b r : Bool) → (a || (b || r)) ≡ (b || (a || r))
or_swaps true true r = refl
or_swaps true false r = refl
or_swaps false true r = refl
or_swaps false false r = refl

same_name : (n m e : List ℕ) → slice_cmp nat_cmp m e ≡ Equal → bytes_eq n m ≡ bytes_eq n e
same_name n m e q = ap (bytes_eq n) ((bytes_eq-Decides m e).0 (sym (is_eq-slice_cmp m e) ∙ ap is_eq q))

found_step : (e : List ℕ × json.Data) (es : Named) (n m : List ℕ) (d : json.Data)
    → is_some (lookup (bytes_eq n) (insert_entry (slice_cmp nat_cmp) es m d)) ≡ (bytes_eq n m || is_some (lookup (bytes_eq n) es))
    → (o : Ordering) → slice_cmp nat_cmp m e.0 ≡ o
    → is_some (lookup (bytes_eq n) (insert_entry (slice_cmp nat_cmp) (e ∷ es) m d)) ≡ (bytes_eq n m || is_some (lookup (bytes_eq n) (e ∷ es)))
found_step e es n m d rest Less h =
    ap (λ o. is_some (lookup (bytes_eq n) (match_ordering o ((m, d) ∷ e ∷ es) ((e.0, d) ∷ es) (e ∷ insert_entry (slice_cmp nat_cmp) es m d)))) h
    ∙ some_or (bytes_eq n m) d (lookup (bytes_eq n) (e ∷ es))
found_step e es n m d rest Equal h =
    ap (λ o. is_some (lookup (bytes_eq n) (match_ordering o ((m, d) ∷ e ∷ es) ((e.0, d) ∷ es) (e ∷ insert_entry (slice_cmp nat_cmp) es m d)))) h
    ∙ some_or (bytes_eq n e.0) d (lookup (bytes_eq n) es)
    ∙ or_twice (bytes_eq n e.0) (is_some (lookup (bytes_eq n) es))
    ∙ ap (λ b. b || (bytes_eq n e.0 || is_some (lookup (bytes_eq n) es))) (sym (same_name n m e.0 h))
    ∙ ap (λ r. bytes_eq n m || r) (sym (some_or (bytes_eq n e.0) e.1 (lookup (bytes_eq n) es)))
found_step e es n m d rest Greater h =
    ap (λ o. is_some (lookup (bytes_eq n) (match_ordering o ((m, d) ∷ e ∷ es) ((e.0, d) ∷ es) (e ∷ insert_entry (slice_cmp nat_cmp) es m d)))) h
    ∙ some_or (bytes_eq n e.0) e.1 (lookup (bytes_eq n) (insert_entry (slice_cmp nat_cmp) es m d))
    ∙ ap (λ r. bytes_eq n e.0 || r) rest
    ∙ or_swaps (bytes_eq n e.0) (bytes_eq n m) (is_some (lookup (bytes_eq n) es))
    ∙ ap (λ r. bytes_eq n m || r) (sym (some_or (bytes_eq n e.0) e.1 (lookup (bytes_eq n) es)))

-- a name is found after an insertion if it is the inserted one or was found before
found_inserted : (es : Named) (n m : List ℕ) (d : json.Data)
    → is_some (lookup (bytes_eq n) (insert_entry (slice_cmp nat_cmp) es m d)) ≡ (bytes_eq n m || is_some (lookup (bytes_eq n) es))
found_inserted [] n m d = some_or (bytes_eq n m) d None
found_inserted (e ∷ es) n m d = found_step e es n m d (found_inserted es n m d) (slice_cmp nat_cmp m e.0) refl

-- ---- collections

and_three : (a b c : Bool) → (a && b && c) ≡ true → (a ≡ true) × (b ≡ true) × (c ≡ true)
and_three true true true e = (refl, refl, refl)
and_three true true false e = absurd (true≢false (sym e))
and_three true false c e = absurd (true≢false (sym e))
and_three false b c e = absurd (true≢false (sym e))

same_place : (c d : Collection) → is_collection c d ≡ true → c ≡ d
same_place c d e =
    let parts = and_three (bytes_eq c.api_version d.api_version) (bytes_eq c.kind d.kind) (bytes_eq c.namespace d.namespace) e
    in let place : List ℕ → List ℕ → List ℕ → Collection = λ v k n. record { api_version = v; kind = k; namespace = n }
    in ap (λ v. place v c.kind c.namespace) ((bytes_eq-Decides c.api_version d.api_version).0 parts.0)
    ∙ ap (λ k. place d.api_version k c.namespace) ((bytes_eq-Decides c.kind d.kind).0 parts.1)
    ∙ ap (λ n. place d.api_version d.kind n) ((bytes_eq-Decides c.namespace d.namespace).0 parts.2)

own_place : (c : Collection) → is_collection c c ≡ true
own_place c =
    rw ((bytes_eq-Decides c.api_version c.api_version).1 refl, (bytes_eq-Decides c.kind c.kind).1 refl, (bytes_eq-Decides c.namespace c.namespace).1 refl) refl

is_place_of : (c d : Collection) → c ≡ d → is_collection c d ≡ true
is_place_of c d e = subst (λ x. is_collection c x ≡ true) e (own_place c)

false_by : (b : Bool) → (b ≡ true → ⊥) → b ≡ false
false_by true f = absurd (f refl)
false_by false f = refl

-- ---- two items

-- the objects, with one of this collection and name added
abbrev added : Objects → Collection → List ℕ → json.Data → Objects
added o p a x c = if is_collection p c then insert_entry (slice_cmp nat_cmp) (o p) a x else o c

abbrev taken : Objects → Collection → List ℕ → Bool
taken o p a = is_some (lookup (bytes_eq a) (o p))

else_same : (s : Bool) (m u v w : Named) → (if s then m else (if s then u else w)) ≡ (if s then m else (if s then v else w))
else_same true m u v w = refl
else_same false m u v w = refl

same_swaps : (o : Objects) (p : Collection) (a b : List ℕ) (x y : json.Data) → bytes_eq b a ≡ false → (c : Collection)
    → added (added o p a x) p b y c ≡ added (added o p b y) p a x c
same_swaps o p a b x y other c =
    ap (λ t. if is_collection p c then insert_entry (slice_cmp nat_cmp) (if t then insert_entry (slice_cmp nat_cmp) (o p) a x else o p) b y else added o p a x c) (own_place p)
    ∙ ap (λ m. if is_collection p c then m else added o p a x c) (insert_swaps (o p) a b x y other)
    ∙ else_same (is_collection p c) (insert_entry (slice_cmp nat_cmp) (insert_entry (slice_cmp nat_cmp) (o p) b y) a x) (insert_entry (slice_cmp nat_cmp) (o p) a x) (insert_entry (slice_cmp nat_cmp) (o p) b y) (o c)
    ∙ sym
    (ap (λ t. if is_collection p c then insert_entry (slice_cmp nat_cmp) (if t then insert_entry (slice_cmp nat_cmp) (o p) b y else o p) a x else added o p b y c) (own_place p))

apart : (s t : Bool) (u v w : Named) → (s ≡ true → t ≡ true → ⊥) → (if t then v else (if s then u else w)) ≡ (if s then u else (if t then v else w))
apart true true u v w f = absurd (f refl refl)
apart true false u v w f = refl
apart false true u v w f = refl
apart false false u v w f = refl

other_swaps : (o : Objects) (p q : Collection) (a b : List ℕ) (x y : json.Data) → is_collection p q ≡ false → is_collection q p ≡ false
    → ((c : Collection) → is_collection p c ≡ true → is_collection q c ≡ true → ⊥) → (c : Collection)
    → added (added o p a x) q b y c ≡ added (added o q b y) p a x c
other_swaps o p q a b x y pq qp f c =
    ap (λ t. if is_collection q c then insert_entry (slice_cmp nat_cmp) (if t then insert_entry (slice_cmp nat_cmp) (o p) a x else o q) b y else added o p a x c) pq
    ∙ apart (is_collection p c) (is_collection q c) (insert_entry (slice_cmp nat_cmp) (o p) a x) (insert_entry (slice_cmp nat_cmp) (o q) b y) (o c) (f c)
    ∙ sym
    (ap (λ t. if is_collection p c then insert_entry (slice_cmp nat_cmp) (if t then insert_entry (slice_cmp nat_cmp) (o q) b y else o p) a x else added o q b y c) qp)

not_both : (p q : Collection) → is_collection p q ≡ false → (c : Collection) → is_collection p c ≡ true → is_collection q c ≡ true → ⊥
not_both p q h c e f = true≢false (sym (is_place_of p q (same_place p c e ∙ sym (same_place q c f))) ∙ h)

not_back : (p q : Collection) → is_collection p q ≡ false → is_collection q p ≡ false
not_back p q h = false_by (is_collection q p) (λ e. true≢false (sym (is_place_of p q (sym (same_place q p e))) ∙ h))

swaps : (o : Objects) (p q : Collection) (a b : List ℕ) (x y : json.Data) → (is_collection p q ≡ true → bytes_eq b a ≡ false)
    → (c : Collection) → added (added o p a x) q b y c ≡ added (added o q b y) p a x c
swaps o p q a b x y other = by (is_collection p q) refl
  where
    by : (t : Bool) → is_collection p q ≡ t → (c : Collection) → added (added o p a x) q b y c ≡ added (added o q b y) p a x c
    by true h =
        subst (λ z. (c : Collection) → added (added o p a x) z b y c ≡ added (added o z b y) p a x c) (same_place p q h) (same_swaps o p a b x y (other h))
    by false h = other_swaps o p q a b x y h (not_back p q h) (not_both p q h)

-- ---- free names

neither : (a b : Bool) → (a || b) ≡ false → (a ≡ false) × (b ≡ false)
neither true b e = absurd (true≢false e)
neither false b e = (refl, e)

none_of : (a b : Bool) → a ≡ false → b ≡ false → (a || b) ≡ false
none_of a b e f = rw (e, f) refl

names_apart : (a b : List ℕ) → bytes_eq b a ≡ false → bytes_eq a b ≡ false
names_apart a b h = false_by (bytes_eq a b) (λ e. true≢false (sym ((bytes_eq-Decides b a).1 (sym ((bytes_eq-Decides a b).0 e))) ∙ h))

-- facts about two items whose names are free, the second one after the first was added
record AreFree (o : Objects) (p q : Collection) (a b : List ℕ) (y : json.Data) : Type 0 where
  pub first : taken o q b ≡ false
  pub second : taken (added o q b y) p a ≡ false
  pub other : is_collection p q ≡ true → bytes_eq b a ≡ false

free_same : (o : Objects) (p : Collection) (a b : List ℕ) (x y : json.Data) → taken o p a ≡ false → taken (added o p a x) p b ≡ false → AreFree o p p a b y
free_same o p a b x y s t =
    let both =
    neither (bytes_eq b a) (taken o p b)
    (sym (found_inserted (o p) b a x)
    ∙ sym (ap (λ z. is_some (lookup (bytes_eq b) (if z then insert_entry (slice_cmp nat_cmp) (o p) a x else o p))) (own_place p)) ∙ t)
    in record {
      first = both.1;
      second =
          ap (λ z. is_some (lookup (bytes_eq a) (if z then insert_entry (slice_cmp nat_cmp) (o p) b y else o p))) (own_place p)
          ∙ found_inserted (o p) a b y ∙ none_of (bytes_eq a b) (taken o p a) (names_apart a b both.0) s;
      other = λ e. both.0;
    }

free_other : (o : Objects) (p q : Collection) (a b : List ℕ) (x y : json.Data) → is_collection p q ≡ false → taken o p a ≡ false
    → taken (added o p a x) q b ≡ false → AreFree o p q a b y
free_other o p q a b x y h s t = record {
  first = sym (ap (λ z. is_some (lookup (bytes_eq b) (if z then insert_entry (slice_cmp nat_cmp) (o p) a x else o q))) h) ∙ t;
  second = ap (λ z. is_some (lookup (bytes_eq a) (if z then insert_entry (slice_cmp nat_cmp) (o q) b y else o p))) (not_back p q h) ∙ s;
  other = λ e. absurd (true≢false (sym e ∙ h));
}

are_free : (o : Objects) (p q : Collection) (a b : List ℕ) (x y : json.Data) → taken o p a ≡ false → taken (added o p a x) q b ≡ false → AreFree o p q a b y
are_free o p q a b x y s t = by (is_collection p q) refl
  where
    by : (z : Bool) → is_collection p q ≡ z → AreFree o p q a b y
    by true h =
        subst (λ r. AreFree o p r a b y) (same_place p q h)
        (free_same o p a b x y s (subst (λ r. taken (added o p a x) r b ≡ false) (sym (same_place p q h)) t))
    by false h = free_other o p q a b x y h s t

-- ---- lists of items

abbrev is_read : Result Objects Refusal → Bool
is_read (Ok o) = true
is_read (Err e) = false

not_refused : (b : Bool) (e : Refusal) (x : Result Objects Refusal) (r : Objects) → (if b then Err e else x) ≡ Ok r → (b ≡ false) × (x ≡ Ok r)
not_refused true e x r h = absurd (true≢false (sym (ap is_read h)))
not_refused false e x r h = (refl, h)

not_taken : (b : Bool) (e : Refusal) (x : Result Objects Refusal) → b ≡ false → (if b then Err e else x) ≡ x
not_taken b e x h = rw h refl

two_swap : (o : Objects) (i j : Item) (after : List Item) (r : Objects) → with_items o (i ∷ j ∷ after) ≡ Ok r → with_items o (j ∷ i ∷ after) ≡ Ok r
two_swap o i j after r h =
    let one = not_refused (is_taken o i) (duplicate_item i.name) (with_items (with_item o i) (j ∷ after)) r h
    in let two = not_refused (is_taken (with_item o i) j) (duplicate_item j.name) (with_items (with_item (with_item o i) j) after) r one.1
    in let free = are_free o i.collection j.collection i.name j.name i.document j.document one.0 two.0
    in let same : with_item (with_item o i) j ≡ with_item (with_item o j) i =
    fun_ext (swaps o i.collection j.collection i.name j.name i.document j.document free.other)
    in not_taken (is_taken o j) (duplicate_item j.name) (with_items (with_item o j) (i ∷ after)) free.first
    ∙ not_taken (is_taken (with_item o j) i) (duplicate_item i.name) (with_items (with_item (with_item o j) i) after) free.second
    ∙ ap (λ z. with_items z after) (sym same) ∙ two.1

pub items_swap : (before : List Item) (o : Objects) (i j : Item) (after : List Item) (r : Objects) → with_items o (before ++ i ∷ j ∷ after) ≡ Ok r
    → with_items o (before ++ j ∷ i ∷ after) ≡ Ok r
items_swap [] o i j after r h = two_swap o i j after r h
items_swap (b ∷ bs) o i j after r h =
    let one = not_refused (is_taken o b) (duplicate_item b.name) (with_items (with_item o b) (bs ++ i ∷ j ∷ after)) r h
    in not_taken (is_taken o b) (duplicate_item b.name) (with_items (with_item o b) (bs ++ j ∷ i ∷ after)) one.0
    ∙ items_swap bs (with_item o b) i j after r one.1
