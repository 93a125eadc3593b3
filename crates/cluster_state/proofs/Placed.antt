-- The maps of the code, as objects.
use Rattle.cluster_state.proofs.Prelude.{◌≡◌, ◌∙◌, ◌∷◌, ◌&&◌, ℕ, Bool, true, false, List, [], Option, Some, None, ap, cond, map, refl, BTreeMap, Bor, Equal, Greater, Less, Ordering, Collection, Document, Entries, bytes_eq, collection_cmp, collection_view, insert_entry, is_at, is_collection, is_eq, is_eq-slice_cmp, is_some, lookup, match_ordering, named_view, nat_cmp, not, option_copied, option_map, option_map_or, ordering_then, slice_cmp, subst, sym, view, if◌then◌else◌}
use Rattle.std.proofs.lemmas.Map.Views.{All-values-insert_entry}
use Rattle.cluster_state.specs.Numbers.{AreNumbered, IsNumbered}
use Rattle.cluster_state.specs.Items.{Item}

map_of_ordering : {A B : Type 0} (f : A → B) (o : Ordering) (x y z : List A)
    → map f (match_ordering o x y z) ≡ match_ordering o (map f x) (map f y) (map f z)
map_of_ordering f Less x y z = refl
map_of_ordering f Equal x y z = refl
map_of_ordering f Greater x y z = refl

-- an entry gets the same place among the names
pub inserted : (es : Entries) (k : Bor (List ℕ)) (v : Document)
    → named_view (insert_entry (λ x y. slice_cmp nat_cmp x.now y.now) es k v) ≡ insert_entry (slice_cmp nat_cmp) (named_view es) k.now (view v.value.now)
inserted [] k v = refl
inserted (e ∷ es) k v =
    map_of_ordering (λ e. (e.0.now, view e.1.value.now)) (slice_cmp nat_cmp k.now e.0.now) ((k, v) ∷ e ∷ es) ((e.0, v) ∷ es) (e ∷ insert_entry (λ x y. slice_cmp nat_cmp x.now y.now) es k v)
    ∙ ap (λ rest. match_ordering (slice_cmp nat_cmp k.now e.0.now) ((k.now, view v.value.now) ∷ named_view (e ∷ es)) ((e.0.now, view v.value.now) ∷ named_view es) ((e.0.now, view e.1.value.now) ∷ rest)) (inserted es k v)

some_either : {A B : Type 0} (b : Bool) (x : A) (y : B) (o : Option A) (p : Option B) → is_some o ≡ is_some p → is_some (cond b (Some x) o) ≡ is_some (cond b (Some y) p)
some_either true x y o p e = refl
some_either false x y o p e = e

-- a name is found in both or in neither
pub found_in_both : (name : List ℕ) (es : Entries)
    → is_some (lookup (is_at (λ k. slice_cmp nat_cmp name k.now)) es) ≡ is_some (lookup (bytes_eq name) (named_view es))
found_in_both name [] = refl
found_in_both name (e ∷ es) =
    ap (λ b. is_some (cond b (Some e.1) (lookup (is_at (λ k. slice_cmp nat_cmp name k.now)) es))) (is_eq-slice_cmp name e.0.now)
    ∙ some_either (bytes_eq name e.0.now) e.1 (view e.1.value.now) (lookup (is_at (λ k. slice_cmp nat_cmp name k.now)) es) (lookup (bytes_eq name) (named_view es)) (found_in_both name es)

pub two_then : (a b : Ordering) → is_eq (ordering_then a b) ≡ (is_eq a && is_eq b)
two_then Less b = refl
two_then Equal b = refl
two_then Greater b = refl

three_then : (a b c : Ordering) → is_eq (ordering_then (ordering_then a b) c) ≡ (is_eq a && is_eq b && is_eq c)
three_then Less b c = refl
three_then Equal b c = two_then b c
three_then Greater b c = refl

and_back : (a b c : Bool) → (a && b && c) ≡ (c && b && a)
and_back true true true = refl
and_back true true false = refl
and_back true false true = refl
and_back true false false = refl
and_back false true true = refl
and_back false true false = refl
and_back false false true = refl
and_back false false false = refl

-- the order of keys finds a collection
pub is_place : (c d : Collection)
    → is_eq (ordering_then (ordering_then (slice_cmp nat_cmp c.namespace d.namespace) (slice_cmp nat_cmp c.kind d.kind)) (slice_cmp nat_cmp c.api_version d.api_version)) ≡ is_collection c d
is_place c d =
    three_then (slice_cmp nat_cmp c.namespace d.namespace) (slice_cmp nat_cmp c.kind d.kind) (slice_cmp nat_cmp c.api_version d.api_version)
    ∙ rw (is_eq-slice_cmp c.api_version d.api_version, is_eq-slice_cmp c.kind d.kind, is_eq-slice_cmp c.namespace d.namespace)
    (and_back (bytes_eq c.namespace d.namespace) (bytes_eq c.kind d.kind) (bytes_eq c.api_version d.api_version))

-- what is found after a place was emptied and refilled
pub refilled : {M A : Type 0} (f : M → List A) (b : Bool) (w : M) (o p q : Option M) → q ≡ cond b (Some w) p → p ≡ cond b None o
    → option_map_or f q [] ≡ (if b then f w else option_map_or f o [])
refilled f true w o p q e h = ap (λ x. option_map_or f x []) e
refilled f false w o p q e h = ap (λ x. option_map_or f x []) (e ∙ h)

-- a borrowed map, or the empty one
pub copied_or : {M A : Type 0} (f : M → List A) (r : Option (Bor M)) → option_map_or (λ m. f m.now) r [] ≡ option_map_or f (option_copied r) []
copied_or f None = refl
copied_or f (Some m) = refl

-- a collection as a key of the code's map
abbrev pub lent : Collection → Bor (List ℕ) × Bor (List ℕ) × Bor (List ℕ)
lent c =
    (record { ref_ptr = (0, 0); now = c.namespace }, record { ref_ptr = (0, 0); now = c.kind }, record { ref_ptr = (0, 0); now = c.api_version })

pub not_back : (a b : Bool) → a ≡ not b → b ≡ not a
not_back true true e = e
not_back true false e = refl
not_back false true e = refl
not_back false false e = e

map_either : {A B : Type 0} (f : A → B) (b : Bool) (x : A) (o : Option A) → option_map f (cond b (Some x) o) ≡ cond b (Some (f x)) (option_map f o)
map_either f true x o = refl
map_either f false x o = refl

-- the result for a name
pub found_as : (name : List ℕ) (es : Entries)
    → option_map (λ v. view v.value.now) (lookup (is_at (λ k. slice_cmp nat_cmp name k.now)) es) ≡ lookup (bytes_eq name) (named_view es)
found_as name [] = refl
found_as name (e ∷ es) =
    ap (λ b. option_map (λ v. view v.value.now) (cond b (Some e.1) (lookup (is_at (λ k. slice_cmp nat_cmp name k.now)) es))) (is_eq-slice_cmp name e.0.now)
    ∙ map_either (λ v. view v.value.now) (bytes_eq name e.0.now) e.1 (lookup (is_at (λ k. slice_cmp nat_cmp name k.now)) es)
    ∙ ap (cond (bytes_eq name e.0.now) (Some (view e.1.value.now))) (found_as name es)

-- an entry of another place is passed by
pub passed_place : (c : Collection) (it rest : List ((Bor (List ℕ) × Bor (List ℕ) × Bor (List ℕ)) × BTreeMap (Bor (List ℕ)) Document))
    (k : Bor (List ℕ) × Bor (List ℕ) × Bor (List ℕ)) (v : BTreeMap (Bor (List ℕ)) Document) → it ≡ (k, v) ∷ rest → is_collection c (collection_view k) ≡ false
    → lookup (is_at (collection_cmp c)) it ≡ lookup (is_at (collection_cmp c)) rest
passed_place c it rest k v is other = rw (is, is_place c (collection_view k) ∙ other) refl

-- the entry of the place is found
pub found_place : (c : Collection) (it rest : List ((Bor (List ℕ) × Bor (List ℕ) × Bor (List ℕ)) × BTreeMap (Bor (List ℕ)) Document))
    (k : Bor (List ℕ) × Bor (List ℕ) × Bor (List ℕ)) (v : BTreeMap (Bor (List ℕ)) Document) → it ≡ (k, v) ∷ rest → is_collection c (collection_view k) ≡ true
    → lookup (is_at (collection_cmp c)) it ≡ Some v
found_place c it rest k v is here = rw (is, is_place c (collection_view k) ∙ here) refl

-- ---- one more item

pub named_either : (b : Bool) (es fs : Entries) → named_view (if b then es else fs) ≡ (if b then named_view es else named_view fs)
named_either true es fs = refl
named_either false es fs = refl

pub numbered_either : (is : List Item) (b : Bool) (es fs : Entries) → AreNumbered is es → AreNumbered is fs → AreNumbered is (if b then es else fs)
numbered_either is true es fs here there = here
numbered_either is false es fs here there = there

-- the entries have the numbers of their items also with one more
pub numbered_more : (is : List Item) (es fs : Entries) (k : Bor (List ℕ)) (d : Document) → fs ≡ insert_entry (λ x y. slice_cmp nat_cmp x.now y.now) es k d
    → AreNumbered is es → IsNumbered is d → AreNumbered is fs
numbered_more is es fs k d added are new =
    subst (AreNumbered is) (sym added) (All-values-insert_entry (λ x y. slice_cmp nat_cmp x.now y.now) k d (IsNumbered is) es are new)
