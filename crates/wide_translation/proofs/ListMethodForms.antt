-- Methods of lists that use the table of indices carry what they mean.
use Rattle.std.proofs.Common.{◌≡◌, ℕ, zero, suc, ◌-◌, nat_le, Bool, true, false, ◌&&◌, ◌-ℤ◌, List, [], ◌∷◌, length, reverse, take, drop, pos, negsuc, slice_get, if◌then◌else◌, refl, ◌∙◌}
use Rattle.std.specs.List.{list_any, list_all}
use Rattle.cel_reader.specs.Tree as tree
use Rattle.cel_reader.specs.Tree.{Tree}
use Rattle.value_store.specs.Equality.{equal}
use Rattle.value_store.specs.Value.{Value, ValueOrError, error, value, null, boolean, int, text, list, map, Items, no_items, item, list_of, items_of}
use Rattle.cel_macros.specs.Arithmetic.{fits, difference_of}
use Rattle.cel_macros.specs.Comparison.{equal_of}
use Rattle.cel_macros.specs.Environment.{Environment, bind, value_or_error}
use Rattle.cel_macros.specs.Functions.{size_of}
unfoldable use Rattle.cel_macros.specs.Functions.{function_named}
use Rattle.cel_macros.specs.Logic.{ternary_of}
use Rattle.cel_macros.specs.Macros.{is_yes, is_no, all_of}
unfoldable use Rattle.cel_macros.specs.Macros.{is_has, is_variables}
unfoldable use Rattle.cel_macros.specs.Meaning.{meaning, meanings}
use Rattle.cel_macros.specs.Selection.{index_of}
use Rattle.wide_meaning.specs.Functions.{method_in, place_in, first_item, last_item}
use Rattle.wide_meaning.specs.ListMethods.{of_items, is_sorted, orders_of, distinct, reversed, slice_of, items_between, places_of}
use Rattle.wide_meaning.specs.Outcome.{Outcome, failed, plain as of_value, present, plain_part, outcome_of, some_of, value_or}
use Rattle.wide_meaning.specs.declared.function.Method.{Method}
use Rattle.wide_meaning.specs.declared.function.Method.TheVariants as method
use Rattle.wide_kinds.specs.declared.kind.ValueKind.{ValueKind}
use Rattle.wide_kinds.specs.declared.kind.ValueKind.TheVariants as kind
use Rattle.wide_kinds.specs.Fitting.{FitsKind, IsOfKind}
use Rattle.wide_translation.specs.Carried.{Carried, plain, guarded, listed, Translation, taken, refused}
use Rattle.wide_translation.specs.Forms.{first_tree}
use Rattle.wide_translation.specs.Holds.{IsPlain, Carries, WideHolds}
use Rattle.wide_translation.specs.Indexed.{Covers, CoversIf}
use Rattle.wide_translation.specs.Lists.{end_tree}
use Rattle.wide_translation.specs.ListMethods.{with_table, third, held_sorted_tree, sorted_tree, held_distinct_tree, distinct_tree}
use Rattle.wide_translation.specs.ListMethods.{held_reversed_tree, reversed_tree, held_slice_tree, slice_tree, places_tree, unless_none_tree}
use Rattle.wide_translation.specs.ListMethods.{place_tree, of_list, method_or}
use Rattle.wide_translation.specs.Forms.{let_tree}
use Rattle.wide_translation.specs.Names.{held_name, second_name, third_name}
use Rattle.wide_translation.specs.Pairs.{table_tree}
use Rattle.wide_translation.specs.Uses.{is_by_place}
use Rattle.wide_translation.specs.Translated.{on_plain, with_plain}
use Rattle.wide_translation.proofs.Environments.{this_name}
use Rattle.wide_translation.proofs.FieldsHold.{part_fits, plain_holds, on_plain_holds}
use Rattle.wide_translation.proofs.ListMethodsHold.{IsOver, over_held, sorted_means, distinct_means, reversed_means, slice_means, place_means, receiver_means}
use Rattle.wide_translation.proofs.OptionalHold.{AllHold}
use Rattle.wide_translation.proofs.RangesHold.{two_by, list_by}
use Rattle.wide_translation.proofs.Steps.{on_value}

-- ---- kinds

bool_or_error : (b : Bool) (x : ValueOrError) → FitsKind kind.Bool x → FitsKind kind.Bool (if b then x else error)
bool_or_error true x h = h
bool_or_error false x h = tt

list_or_error_kind : (b : Bool) (x : ValueOrError) → FitsKind kind.List x → FitsKind kind.List (if b then x else error)
list_or_error_kind true x h = h
list_or_error_kind false x h = tt

kind_of_items : (k : ValueKind) (f : Items → ValueOrError) (x : ValueOrError) → ((is : Items) → FitsKind k (f is)) → FitsKind k (of_items f x)
kind_of_items k f error h = tt
kind_of_items k f (value null) h = tt
kind_of_items k f (value (boolean b)) h = tt
kind_of_items k f (value (int z)) h = tt
kind_of_items k f (value (text s)) h = tt
kind_of_items k f (value (list is)) h = h is
kind_of_items k f (value (map es)) h = tt

sorted_kind : (is : Items) → FitsKind kind.Bool (is_sorted is)
sorted_kind is =
    bool_or_error (fits (pos (length (list_of is)) -ℤ pos 1)) (all_of (orders_of is)) (two_by (list_any is_no (orders_of is)) (list_all is_yes (orders_of is)))

reversed_kind : (is : Items) → FitsKind kind.List (reversed is)
reversed_kind is = list_or_error_kind (fits (pos (length (list_of is)) -ℤ pos 1)) (value (list (items_of (reverse (list_of is))))) refl

between_kind : (a b : ℕ) (is : Items) → FitsKind kind.List (items_between a b is)
between_kind a b is =
    list_or_error_kind (nat_le a b && nat_le b (length (list_of is))) (value (list (items_of (take (b - a) (drop a (list_of is)))))) refl

slice_kind : (x p q : ValueOrError) → FitsKind kind.List (slice_of x p q)
slice_kind (value (list is)) (value (int (pos a))) (value (int (pos b))) = between_kind a b is
slice_kind _ _ _ = tt

-- ---- places

-- an item of the list of places is an int
place_kind_by : (b : Bool) (v : Value) (n : ℕ) (more : Items) (k : ℕ) → ((k : ℕ) → FitsKind kind.Int (value_or_error (slice_get (list_of more) k)))
    → FitsKind kind.Int (value_or_error (slice_get (list_of (if b then item (int (pos n)) more else more)) k))
place_kind_by true v n more zero h = refl
place_kind_by true v n more (suc k) h = h k
place_kind_by false v n more k h = h k

place_kind : (v : Value) (n : ℕ) (is : Items) (k : ℕ) → FitsKind kind.Int (value_or_error (slice_get (list_of (places_of v n is)) k))
place_kind v n no_items k = tt
place_kind v n (item w more) k = place_kind_by (equal w v) v n (places_of v (suc n) more) k (λ i. place_kind v (suc n) more i)

-- the first place, and the last, or -1
abbrev or_none : (Items → Outcome) → Items → ValueOrError
or_none f ps = plain_part (value_or (f ps) (of_value (int (negsuc 0))))

first_or_none : (ps : Items) → ternary_of (equal_of (value (list ps)) (value (list no_items))) (value (int (negsuc 0))) (index_of (value (list ps)) (value (int (pos 0)))) ≡ or_none first_item ps
first_or_none no_items = refl
first_or_none (item v more) = refl

some_or : (z : ValueOrError) (d : Outcome) → z ≡ plain_part (value_or (some_of (outcome_of z)) d)
some_or error d = refl
some_or (value v) d = refl

last_or_none : (ps : Items)
    → ternary_of (equal_of (value (list ps)) (value (list no_items))) (value (int (negsuc 0))) (index_of (value (list ps)) (difference_of (size_of (value (list ps))) (value (int (pos 1))))) ≡ or_none last_item ps
last_or_none no_items = refl
last_or_none (item v more) =
    some_or (index_of (value (list (item v more))) (difference_of (size_of (value (list (item v more)))) (value (int (pos 1))))) (of_value (int (negsuc 0)))

first_tree_means : (ps : Items) (env : Environment) → meaning (unless_none_tree (first_tree third)) (bind third_name (list ps) env) ≡ or_none first_item ps
unfolding meaning meanings
first_tree_means ps env =
    let is : meaning third (bind third_name (list ps) env) ≡ value (list ps) = this_name third_name (list ps) env in
    (λ j. ternary_of (equal_of (is j) (value (list no_items))) (value (int (negsuc 0))) (index_of (is j) (value (int (pos 0))))) ∙ first_or_none ps

end_tree_means : (ps : Items) (env : Environment) → meaning (unless_none_tree (end_tree third)) (bind third_name (list ps) env) ≡ or_none last_item ps
unfolding meaning meanings is_has function_named
end_tree_means ps env =
    let is : meaning third (bind third_name (list ps) env) ≡ value (list ps) = this_name third_name (list ps) env in
    (λ j. ternary_of (equal_of (is j) (value (list no_items))) (value (int (negsuc 0))) (index_of (is j) (difference_of (size_of (is j)) (value (int (pos 1))))))
    ∙ last_or_none ps

-- ---- trees

-- the table of indices is y
module _ (y : ValueOrError) where
  sorted_holds : (b : Bool) (k : ValueKind) (a : Tree) (x : Outcome) (env : Environment) → (b ≡ true → Covers y (plain_part x)) → meaning table_tree env ≡ y → IsPlain k a x env
      → WideHolds (with_table b (taken (plain kind.Bool (sorted_tree a)))) (outcome_of (of_items is_sorted (plain_part x))) env
  unfolding is_variables
  sorted_holds false k a x env c t h = tt
  sorted_holds true k a x env c t h =
      plain_holds kind.Bool (sorted_tree a) (of_items is_sorted (plain_part x)) env
      (receiver_means y a held_sorted_tree is_sorted (plain_part x) env t (c refl) h.means (λ is o k. sorted_means y is (bind held_name (list is) env) o k))
      (kind_of_items kind.Bool is_sorted (plain_part x) sorted_kind) refl

  distinct_holds : (b : Bool) (k : ValueKind) (a : Tree) (x : Outcome) (env : Environment) → (b ≡ true → Covers y (plain_part x)) → meaning table_tree env ≡ y → IsPlain k a x env
      → WideHolds (with_table b (taken (plain kind.List (distinct_tree a)))) (outcome_of (of_items distinct (plain_part x))) env
  unfolding is_variables
  distinct_holds false k a x env c t h = tt
  distinct_holds true k a x env c t h =
      plain_holds kind.List (distinct_tree a) (of_items distinct (plain_part x)) env
      (receiver_means y a held_distinct_tree distinct (plain_part x) env t (c refl) h.means (λ is o k. distinct_means y is (bind held_name (list is) env) o k))
      (kind_of_items kind.List distinct (plain_part x) (λ is. refl)) refl

  reversed_holds : (b : Bool) (k : ValueKind) (a : Tree) (x : Outcome) (env : Environment) → (b ≡ true → Covers y (plain_part x)) → meaning table_tree env ≡ y → IsPlain k a x env
      → WideHolds (with_table b (taken (plain kind.List (reversed_tree a)))) (outcome_of (of_items reversed (plain_part x))) env
  unfolding is_variables
  reversed_holds false k a x env c t h = tt
  reversed_holds true k a x env c t h =
      plain_holds kind.List (reversed_tree a) (of_items reversed (plain_part x)) env
      (receiver_means y a held_reversed_tree reversed (plain_part x) env t (c refl) h.means (λ is o k. reversed_means y is (bind held_name (list is) env) o k))
      (kind_of_items kind.List reversed (plain_part x) reversed_kind) refl

  slice_receiver : (x p q : ValueOrError) → of_items (λ is. slice_of (value (list is)) p q) x ≡ slice_of x p q
  slice_receiver error p q = refl
  slice_receiver (value null) p q = refl
  slice_receiver (value (boolean b)) p q = refl
  slice_receiver (value (int z)) p q = refl
  slice_receiver (value (text s)) p q = refl
  slice_receiver (value (list is)) p q = refl
  slice_receiver (value (map es)) p q = refl

  slice_of_two : (k j i : ValueKind) (a d e : Tree) (x u v : Outcome) (env : Environment) → Covers y (plain_part x) → meaning table_tree env ≡ y → IsPlain k a x env
      → ((z : Value) → IsPlain j d u (bind held_name z env)) → ((z w : Value) → IsPlain i e v (bind second_name w (bind held_name z env)))
      → IsPlain kind.List (slice_tree a d e) (outcome_of (slice_of (plain_part x) (plain_part u) (plain_part v))) env
  unfolding is_variables
  slice_of_two k j i a d e x u v env c t h f g =
      plain_holds kind.List (slice_tree a d e) (slice_of (plain_part x) (plain_part u) (plain_part v)) env
      (receiver_means y a (let_tree second_name d (let_tree third_name e held_slice_tree))
      (λ is. slice_of (value (list is)) (plain_part u) (plain_part v)) (plain_part x) env t c h.means
      (λ is o k. slice_means y is d e (plain_part u) (plain_part v) (bind held_name (list is) env) o k (f (list is)).means (λ w. (g (list is) w).means))
      ∙ slice_receiver (plain_part x) (plain_part u) (plain_part v))
      (slice_kind (plain_part x) (plain_part u) (plain_part v)) refl

  slice_to : (k j : ValueKind) (a d : Tree) (t : Translation) (x u v : Outcome) (env : Environment) → Covers y (plain_part x) → meaning table_tree env ≡ y → IsPlain k a x env
      → ((z : Value) → IsPlain j d u (bind held_name z env)) → ((z w : Value) → WideHolds t v (bind second_name w (bind held_name z env)))
      → WideHolds (with_plain t (λ i e. taken (plain kind.List (slice_tree a d e)))) (outcome_of (slice_of (plain_part x) (plain_part u) (plain_part v))) env
  slice_to k j a d (refused e) x u v env c q h f g = tt
  slice_to k j a d (taken (guarded i b e)) x u v env c q h f g = tt
  slice_to k j a d (taken (listed i l)) x u v env c q h f g = tt
  slice_to k j a d (taken (plain i e)) x u v env c q h f g = slice_of_two k j i a d e x u v env c q h f g

  slice_from : (k : ValueKind) (a : Tree) (s t : Translation) (x u v : Outcome) (env : Environment) → Covers y (plain_part x) → meaning table_tree env ≡ y → IsPlain k a x env
      → ((z : Value) → WideHolds s u (bind held_name z env)) → ((z w : Value) → WideHolds t v (bind second_name w (bind held_name z env)))
      → WideHolds (with_plain s (λ j d. with_plain t (λ i e. taken (plain kind.List (slice_tree a d e))))) (outcome_of (slice_of (plain_part x) (plain_part u) (plain_part v))) env
  slice_from k a (refused e) t x u v env c q h f g = tt
  slice_from k a (taken (guarded j b d)) t x u v env c q h f g = tt
  slice_from k a (taken (listed j l)) t x u v env c q h f g = tt
  slice_from k a (taken (plain j d)) t x u v env c q h f g = slice_to k j a d t x u v env c q h f g

  slice_holds : (b : Bool) (k : ValueKind) (a : Tree) (s t : Translation) (x u v : Outcome) (env : Environment) → (b ≡ true → Covers y (plain_part x)) → meaning table_tree env ≡ y → IsPlain k a x env
      → ((z : Value) → WideHolds s u (bind held_name z env)) → ((z w : Value) → WideHolds t v (bind second_name w (bind held_name z env)))
      → WideHolds (with_table b (with_plain s (λ j d. with_plain t (λ i e. taken (plain kind.List (slice_tree a d e)))))) (outcome_of (slice_of (plain_part x) (plain_part u) (plain_part v))) env
  slice_holds false k a s t x u v env c q h f g = tt
  slice_holds true k a s t x u v env c q h f g = slice_from k a s t x u v env (c refl) q h f g

  -- ---- indexOf and lastIndexOf

  place_receiver : (f : Items → Outcome) (x p : ValueOrError) (r : Outcome) → FitsKind kind.List x
      → of_items (λ is. on_value (λ v. or_none f (places_of v 0 is)) p) x ≡ plain_part (place_in f x p r)
  place_receiver f error p r h = refl
  place_receiver f (value (list is)) error r h = refl
  place_receiver f (value (list is)) (value v) r h = refl
  place_receiver f (value null) p r h = absurd (cc)
  place_receiver f (value (boolean b)) p r h = absurd (cc)
  place_receiver f (value (int z)) p r h = absurd (cc)
  place_receiver f (value (text s)) p r h = absurd (cc)
  place_receiver f (value (map es)) p r h = absurd (cc)

  -- which of the places it is, written and meant
  record IsPlaceForm (q : Tree) (f : Items → Outcome) : Type 0 where
    means : (ps : Items) (env : Environment) → meaning (unless_none_tree q) (bind third_name (list ps) env) ≡ or_none f ps
    is_int : (ps : Items) → ((k : ℕ) → FitsKind kind.Int (value_or_error (slice_get (list_of ps) k))) → IsOfKind kind.Int (value_or (f ps) (of_value (int (negsuc 0))))

  first_int : (ps : Items) → ((k : ℕ) → FitsKind kind.Int (value_or_error (slice_get (list_of ps) k))) → IsOfKind kind.Int (value_or (first_item ps) (of_value (int (negsuc 0))))
  first_int no_items h = refl
  first_int (item v more) h = h 0

  index_int : (ps : Items) (q : ValueOrError) → ((k : ℕ) → FitsKind kind.Int (value_or_error (slice_get (list_of ps) k))) → FitsKind kind.Int (index_of (value (list ps)) q)
  index_int ps (value (int (pos k))) h = h k
  index_int ps (value (int (negsuc k))) h = tt
  index_int ps error h = tt
  index_int ps (value null) h = tt
  index_int ps (value (boolean b)) h = tt
  index_int ps (value (text s)) h = tt
  index_int ps (value (list is)) h = tt
  index_int ps (value (map es)) h = tt

  some_int : (z : ValueOrError) → FitsKind kind.Int z → IsOfKind kind.Int (value_or (some_of (outcome_of z)) (of_value (int (negsuc 0))))
  some_int error h = tt
  some_int (value v) h = h

  last_int : (ps : Items) → ((k : ℕ) → FitsKind kind.Int (value_or_error (slice_get (list_of ps) k))) → IsOfKind kind.Int (value_or (last_item ps) (of_value (int (negsuc 0))))
  last_int no_items h = refl
  last_int (item v more) h =
      let q : ValueOrError = difference_of (size_of (value (list (item v more)))) (value (int (pos 1))) in
      some_int (index_of (value (list (item v more))) q) (index_int (item v more) q h)

  first_form : IsPlaceForm (first_tree third) first_item
  first_form = record { means = first_tree_means; is_int = first_int }

  last_form : IsPlaceForm (end_tree third) last_item
  last_form = record { means = end_tree_means; is_int = last_int }

  place_in_kind : (q : Tree) (f : Items → Outcome) (x p : ValueOrError) (r : Outcome) → IsPlaceForm q f → FitsKind kind.List x → IsOfKind kind.Int (place_in f x p r)
  place_in_kind q f error p r o h = tt
  place_in_kind q f (value (list is)) error r o h = tt
  place_in_kind q f (value (list is)) (value v) r o h = o.is_int (places_of v 0 is) (λ k. place_kind v 0 is k)
  place_in_kind q f (value null) p r o h = absurd (cc)
  place_in_kind q f (value (boolean b)) p r o h = absurd (cc)
  place_in_kind q f (value (int z)) p r o h = absurd (cc)
  place_in_kind q f (value (text s)) p r o h = absurd (cc)
  place_in_kind q f (value (map es)) p r o h = absurd (cc)

  place_of : (q : Tree) (f : Items → Outcome) (j : ValueKind) (a d : Tree) (x u r : Outcome) (env : Environment) → IsPlaceForm q f → Covers y (plain_part x)
      → meaning table_tree env ≡ y → IsPlain kind.List a x env → ((z : Value) → IsPlain j d u (bind held_name z env))
      → IsPlain kind.Int (place_tree q a d) (place_in f (plain_part x) (plain_part u) r) env
  unfolding is_variables
  place_of q f j a d x u r env o c t h g = record {
    means = receiver_means y a (let_tree second_name d (let_tree third_name places_tree (unless_none_tree q)))
        (λ is. on_value (λ v. or_none f (places_of v 0 is)) (plain_part u)) (plain_part x) env t c h.means
        (λ is l k. place_means y (unless_none_tree q) (or_none f) is d (plain_part u) (bind held_name (list is) env) l k o.means (g (list is)).means)
        ∙ place_receiver f (plain_part x) (plain_part u) r (part_fits kind.List x h.kind);
    kind = place_in_kind q f (plain_part x) (plain_part u) r o (part_fits kind.List x h.kind);
    free = refl;
  }

  place_with : (q : Tree) (f : Items → Outcome) (a : Tree) (t : Translation) (x u r : Outcome) (env : Environment) → IsPlaceForm q f → Covers y (plain_part x)
      → meaning table_tree env ≡ y → IsPlain kind.List a x env → ((z : Value) → WideHolds t u (bind held_name z env))
      → WideHolds (with_plain t (λ j d. taken (plain kind.Int (place_tree q a d)))) (place_in f (plain_part x) (plain_part u) r) env
  place_with q f a (refused e) x u r env o c n h g = tt
  place_with q f a (taken (guarded j b d)) x u r env o c n h g = tt
  place_with q f a (taken (listed j l)) x u r env o c n h g = tt
  place_with q f a (taken (plain j d)) x u r env o c n h g = place_of q f j a d x u r env o c n h g

  place_holds : (m : Method) (q : Tree) (f : Items → Outcome) (b : Bool) (k : ValueKind) (a : Tree) (t : Translation) (x u r : Outcome) (env : Environment) → IsPlaceForm q f
      → (b ≡ true → Covers y (plain_part x)) → meaning table_tree env ≡ y → IsPlain k a x env → ((z : Value) → WideHolds t u (bind held_name z env))
      → WideHolds (of_list m k (with_table b (with_plain t (λ j d. taken (plain kind.Int (place_tree q a d)))))) (place_in f (plain_part x) (plain_part u) r) env
  place_holds m q f true kind.List a t x u r env o c n h g = place_with q f a t x u r env o (c refl) n h g
  place_holds m q f false kind.List a t x u r env o c n h g = tt
  place_holds m q f b kind.Null a t x u r env o c n h g = tt
  place_holds m q f b kind.Bool a t x u r env o c n h g = tt
  place_holds m q f b kind.Int a t x u r env o c n h g = tt
  place_holds m q f b kind.String a t x u r env o c n h g = tt
  place_holds m q f b kind.Map a t x u r env o c n h g = tt
  place_holds m q f b kind.Dyn a t x u r env o c n h g = tt

  -- ---- methods

  pub method_or_holds : (b : Bool) (m : Method) (c : Carried) (x : Outcome) (ts : List Translation) (xs : List Outcome) (u : Translation) (r : Outcome) (env : Environment)
      → (b ≡ true → CoversIf (is_by_place m) y (plain_part x)) → meaning table_tree env ≡ y → Carries c x env → ((v : Value) → AllHold ts xs (bind held_name v env))
      → ((v w : Value) → AllHold ts xs (bind second_name w (bind held_name v env))) → WideHolds u (method_in m x xs r) env
      → WideHolds (method_or b m c ts u) (method_in m x xs r) env
  method_or_holds b method.IsSorted c x [] [] u r env k t h s d g =
      on_plain_holds c (λ i a. with_table b (taken (plain kind.Bool (sorted_tree a)))) x (outcome_of (of_items is_sorted (plain_part x))) env h (λ i a q. sorted_holds b i a x env k t q)
  method_or_holds b method.IsSorted c x [] (z ∷ zs) u r env k t h s d g = absurd (s null)
  method_or_holds b method.IsSorted c x (p ∷ ps) xs u r env k t h s d g = g
  method_or_holds b method.Distinct c x [] [] u r env k t h s d g =
      on_plain_holds c (λ i a. with_table b (taken (plain kind.List (distinct_tree a)))) x (outcome_of (of_items distinct (plain_part x))) env h (λ i a q. distinct_holds b i a x env k t q)
  method_or_holds b method.Distinct c x [] (z ∷ zs) u r env k t h s d g = absurd (s null)
  method_or_holds b method.Distinct c x (p ∷ ps) xs u r env k t h s d g = g
  method_or_holds b method.Reverse c x [] [] u r env k t h s d g =
      on_plain_holds c (λ i a. with_table b (taken (plain kind.List (reversed_tree a)))) x (outcome_of (of_items reversed (plain_part x))) env h (λ i a q. reversed_holds b i a x env k t q)
  method_or_holds b method.Reverse c x [] (z ∷ zs) u r env k t h s d g = absurd (s null)
  method_or_holds b method.Reverse c x (p ∷ ps) xs u r env k t h s d g = g
  method_or_holds b method.Slice c x [] xs u r env k t h s d g = g
  method_or_holds b method.Slice c x (p ∷ []) xs u r env k t h s d g = g
  method_or_holds b method.Slice c x (p ∷ q ∷ []) [] u r env k t h s d g = absurd (s null)
  method_or_holds b method.Slice c x (p ∷ q ∷ []) (v ∷ []) u r env k t h s d g = absurd ((s null).1)
  method_or_holds b method.Slice c x (p ∷ q ∷ []) (v ∷ w ∷ []) u r env k t h s d g =
      on_plain_holds c (λ i a. with_table b (with_plain p (λ j e. with_plain q (λ n f. taken (plain kind.List (slice_tree a e f)))))) x
      (outcome_of (slice_of (plain_part x) (plain_part v) (plain_part w))) env h
      (λ i a l. slice_holds b i a p q x v w env k t l (λ z. (s z).0) (λ z o. (d z o).1.0))
  method_or_holds b method.Slice c x (p ∷ q ∷ []) (v ∷ w ∷ z ∷ zs) u r env k t h s d g = absurd ((s null).1.1)
  method_or_holds b method.Slice c x (p ∷ q ∷ o ∷ os) xs u r env k t h s d g = g
  method_or_holds b method.IndexOf c x [] xs u r env k t h s d g = g
  method_or_holds b method.IndexOf c x (p ∷ []) [] u r env k t h s d g = absurd (s null)
  method_or_holds b method.IndexOf c x (p ∷ []) (v ∷ []) u r env k t h s d g =
      on_plain_holds c (λ i a. of_list method.IndexOf i (with_table b (with_plain p (λ j e. taken (plain kind.Int (place_tree (first_tree third) a e)))))) x
      (place_in first_item (plain_part x) (plain_part v) r) env h
      (λ i a l. place_holds method.IndexOf (first_tree third) first_item b i a p x v r env first_form k t l (λ z. (s z).0))
  method_or_holds b method.IndexOf c x (p ∷ []) (v ∷ z ∷ zs) u r env k t h s d g = absurd ((s null).1)
  method_or_holds b method.IndexOf c x (p ∷ q ∷ qs) xs u r env k t h s d g = g
  method_or_holds b method.LastIndexOf c x [] xs u r env k t h s d g = g
  method_or_holds b method.LastIndexOf c x (p ∷ []) [] u r env k t h s d g = absurd (s null)
  method_or_holds b method.LastIndexOf c x (p ∷ []) (v ∷ []) u r env k t h s d g =
      on_plain_holds c (λ i a. of_list method.LastIndexOf i (with_table b (with_plain p (λ j e. taken (plain kind.Int (place_tree (end_tree third) a e)))))) x
      (place_in last_item (plain_part x) (plain_part v) r) env h
      (λ i a l. place_holds method.LastIndexOf (end_tree third) last_item b i a p x v r env last_form k t l (λ z. (s z).0))
  method_or_holds b method.LastIndexOf c x (p ∷ []) (v ∷ z ∷ zs) u r env k t h s d g = absurd ((s null).1)
  method_or_holds b method.LastIndexOf c x (p ∷ q ∷ qs) xs u r env k t h s d g = g
  method_or_holds b _ c x ts xs u r env k t h s d g = g
