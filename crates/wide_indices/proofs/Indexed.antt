-- As many indices as the environment is wide are enough for narrow ranges, by induction.
use Rattle.std.proofs.Common.{◌≡◌, ◌≤◌, ◌<◌, ℕ, zero, suc, Bool, true, false, ◌&&◌, ◌||◌, List, [], ◌∷◌, length, Option, Some, None, refl, arith, slice_index_or}
use Rattle.value_store.specs.Lookup.{find}
use Rattle.value_store.specs.Value.{Value, null, boolean, int, text, list, list_of, items_of, Entries, no_entries, entry}
use Rattle.value_store.specs.Value.{map as value_map}
use Rattle.value_store.specs.Value.{ValueOrError, error, value}
use Rattle.value_widths.specs.Width.{width_of, result_width}
use Rattle.value_widths.proofs.Parts.{parts_are_narrower}
use Rattle.cel_macros.specs.Macros.{range_of}
use Rattle.wide_reader.specs.Tree.{Wide, Wides, WideItems, WideEntries}
use Rattle.wide_reader.specs.Tree as wide
use Rattle.wide_meaning.specs.Environment.{WideEnvironment, bound}
use Rattle.wide_meaning.specs.Meaning.{wide_meaning}
use Rattle.wide_meaning.specs.Outcome.{Outcome, failed, plain, absent, present, plain_part}
use Rattle.wide_meaning.specs.Ranges.{pairs_of, numbered, keyed}
use Rattle.wide_translation.specs.Indexed.{ints_from, Covers, CoversIf, ForEach, ForPresent}
unfoldable use Rattle.wide_translation.specs.Indexed.{Indexed, AllIndexed, ItemsIndexed, EntriesIndexed}
use Rattle.wide_translation.specs.Uses.{uses, needs_indices}
use Rattle.wide_widths.specs.Law.{IsOutcomeWithin, IsEnvironmentWithin}
use Rattle.wide_widths.specs.Narrow.{NarrowNames, binding, is_narrow}
use Rattle.wide_widths.proofs.Law.{narrow_means_within}
use Rattle.wide_widths.proofs.Lists.{EachOf, IsShortIf, IsValueWithin, IsPairWithin, range_within, pairs_within}
use Rattle.wide_widths.proofs.Values.{plain_within}
use Rattle.wide_widths.proofs.Within.{and_left, and_right, bound_within}
use Rattle.wide_indices.specs.Narrow.{is_narrow_if, binding_pair}
unfoldable use Rattle.wide_indices.specs.Narrow.{has_narrow_ranges, all_have_narrow_ranges, items_have_narrow_ranges, entries_have_narrow_ranges}
use Rattle.wide_indices.specs.Law.{NarrowRangesAreIndexed}

-- ---- items of a range

at_place : {A : Type 0} (W : A → Type 0) (vs : List A) (k : ℕ) (d : A) → EachOf W vs → k < length vs → W (slice_index_or vs k d)
at_place W [] k d h lt = absurd (omega (arith, lt))
at_place W (v ∷ vs) zero d h lt = h.0
at_place W (v ∷ vs) (suc k) d h lt = at_place W vs k d h.1 (omega (arith, lt))

-- what is known of the items only if the range is narrow
for_items : {A : Type 0} (n : ℕ) (W P : A → Type 0) (b : Bool) (o : Option (List A)) → (b ≡ true → IsShortIf n W o)
    → ((x : A) → (b ≡ true → W x) → P x) → ForEach P o
for_items n W P b None h g = tt
for_items n W P true (Some vs) h g = λ k d lt. g (slice_index_or vs k d) (λ j. at_place W vs k d (h refl).1 lt)
for_items n W P false (Some vs) h g = λ k d lt. g (slice_index_or vs k d) (λ e. absurd (cc))

-- a key or an index
abbrev IsKey : Value × Value → Type 0
IsKey e = width_of e.0 ≡ 0

abbrev AreKeys : Option (List (Value × Value)) → Type 0
AreKeys None = Unit {0}
AreKeys (Some ps) = EachOf IsKey ps

numbered_keys : (i : ℕ) (vs : List Value) → EachOf IsKey (numbered i vs)
numbered_keys i [] = tt
numbered_keys i (v ∷ vs) = (refl, numbered_keys (suc i) vs)

keyed_keys : (fs es : Entries) → EachOf IsKey (keyed fs es)
keyed_keys fs no_entries = tt
keyed_keys fs (entry k v es) = (refl, keyed_keys fs es)

pair_keys : (x : ValueOrError) → AreKeys (pairs_of x)
pair_keys error = tt
pair_keys (value null) = tt
pair_keys (value (boolean b)) = tt
pair_keys (value (int z)) = tt
pair_keys (value (text s)) = tt
pair_keys (value (list is)) = numbered_keys 0 (list_of is)
pair_keys (value (value_map es)) = keyed_keys es es

key_at : (n : ℕ) (ps : List (Value × Value)) (k : ℕ) (d : Value × Value) → EachOf IsKey ps → k < length ps → width_of (slice_index_or ps k d).0 ≤ n
key_at n ps k d q lt = let z = at_place IsKey ps k d q lt in omega (arith, z)

-- what is known of the values only if the range is narrow
for_pairs : (n : ℕ) (P : Value × Value → Type 0) (b : Bool) (o : Option (List (Value × Value))) → AreKeys o → (b ≡ true → IsShortIf n (IsPairWithin n) o)
    → ((e : Value × Value) → width_of e.0 ≤ n → (b ≡ true → width_of e.1 ≤ n) → P e) → ForEach P o
for_pairs n P b None q h g = tt
for_pairs n P true (Some ps) q h g = λ k d lt. g (slice_index_or ps k d) (key_at n ps k d q lt) (λ j. (at_place (IsPairWithin n) ps k d (h refl).1 lt).1)
for_pairs n P false (Some ps) q h g = λ k d lt. g (slice_index_or ps k d) (key_at n ps k d q lt) (λ e. absurd (cc))

for_value : (n : ℕ) (P : Value → Type 0) (b : Bool) (o : Outcome) → (b ≡ true → IsOutcomeWithin n o)
    → ((v : Value) → (b ≡ true → width_of v ≤ n) → P v) → ForPresent P o
for_value n P b failed h g = tt
for_value n P b (plain v) h g = tt
for_value n P b absent h g = tt
for_value n P b (present v) h g = g v h

found : (n : ℕ) (es : Entries) (k : List ℕ) (w : Value) → width_of (value_map es) ≤ n → find k es ≡ Some w → width_of w ≤ n
found n es k w h e = let g = parts_are_narrower.entry es k w e in omega (arith, g, h)

module _ (others : Wide → WideEnvironment → Outcome) (n m : ℕ) (l : n ≤ m) where
  abbrev table : ValueOrError
  table = value (list (items_of (ints_from 0 m)))

  covers : (x : ValueOrError) → result_width x ≤ n → Covers table x
  covers error h = tt
  covers (value null) h = tt
  covers (value (boolean b)) h = tt
  covers (value (int z)) h = tt
  covers (value (text s)) h = tt
  covers (value (list is)) h = (m, refl, let g = parts_are_narrower.items is in omega (arith, g, h, l))
  covers (value (value_map es)) h = tt

  covers_if : (u b : Bool) (x : ValueOrError) → (b ≡ true → result_width x ≤ n) → is_narrow_if u b ≡ true → CoversIf u table x
  covers_if true b x h k = covers x (h k)
  covers_if false b x h k = tt

  -- the value of a range, if it is narrow
  narrow : (s : NarrowNames) (env : WideEnvironment) (r : Wide) → IsEnvironmentWithin n s env → is_narrow s r ≡ true → result_width (plain_part (wide_meaning others r env)) ≤ n
  narrow s env r h k = plain_within n (wide_meaning others r env) (narrow_means_within others n s env r h k)

  pair_bound : (k v : List ℕ) (b : Bool) (e : Value × Value) (s : NarrowNames) (env : WideEnvironment) → IsEnvironmentWithin n s env
      → width_of e.0 ≤ n → (b ≡ true → width_of e.1 ≤ n) → IsEnvironmentWithin n (binding_pair k v b s) (bound v e.1 (bound k e.0 env))
  pair_bound k v b e s env h q w = bound_within n v b e.1 (binding k true s) (bound k e.0 env) (bound_within n k true e.0 s env h (λ j. q)) w

  mutual
    unfolding Indexed has_narrow_ranges

    covered : (e : Wide) (s : NarrowNames) (env : WideEnvironment) → IsEnvironmentWithin n s env → has_narrow_ranges s e ≡ true → Indexed others table e env
    covered (wide.literal c) s env h g = tt
    covered (wide.uint i) s env h g = tt
    covered (wide.name x) s env h g = tt
    covered (wide.root x) s env h g = tt
    covered (wide.select a o f) s env h g = covered a s env h g
    covered (wide.index a o k) s env h g =
        (covered a s env h (and_left (has_narrow_ranges s a) (has_narrow_ranges s k) g), covered k s env h (and_right (has_narrow_ranges s a) (has_narrow_ranges s k) g))
    covered (wide.has a f) s env h g = covered a s env h g
    covered (wide.unary op a) s env h g = covered a s env h g
    covered (wide.binary op a b) s env h g =
        (covered a s env h (and_left (has_narrow_ranges s a) (has_narrow_ranges s b) g), covered b s env h (and_right (has_narrow_ranges s a) (has_narrow_ranges s b) g))
    covered (wide.ternary c a b) s env h g =
        let i : (has_narrow_ranges s a && has_narrow_ranges s b) ≡ true = and_right (has_narrow_ranges s c) (has_narrow_ranges s a && has_narrow_ranges s b) g in
        (covered c s env h (and_left (has_narrow_ranges s c) (has_narrow_ranges s a && has_narrow_ranges s b) g), covered a s env h (and_left (has_narrow_ranges s a) (has_narrow_ranges s b) i), covered b s env h (and_right (has_narrow_ranges s a) (has_narrow_ranges s b) i))
    covered (wide.list items) s env h g = items_covered items s env h g
    covered (wide.map es) s env h g = entries_covered es s env h g
    covered (wide.fold c r x p) s env h g =
        let b : Bool = is_narrow s r in (
          covered r s env h (and_left (has_narrow_ranges s r) (has_narrow_ranges (binding x b s) p) g),
          for_items n (IsValueWithin n) (λ v. Indexed others table p (bound x v env)) b (range_of (plain_part (wide_meaning others r env)))
              (λ i. range_within n (plain_part (wide_meaning others r env)) (narrow s env r h i))
              (λ v w. covered p (binding x b s) (bound x v env) (bound_within n x b v s env h w) (and_right (has_narrow_ranges s r) (has_narrow_ranges (binding x b s) p) g)),
        )
    covered (wide.filter_map r x p t) s env h g =
        let b : Bool = is_narrow s r in
        let i : (has_narrow_ranges (binding x b s) p && has_narrow_ranges (binding x b s) t) ≡ true
        = and_right (has_narrow_ranges s r) (has_narrow_ranges (binding x b s) p && has_narrow_ranges (binding x b s) t) g in (
          covered r s env h (and_left (has_narrow_ranges s r) (has_narrow_ranges (binding x b s) p && has_narrow_ranges (binding x b s) t) g),
          for_items n (IsValueWithin n) (λ v. Indexed others table p (bound x v env)) b (range_of (plain_part (wide_meaning others r env)))
              (λ j. range_within n (plain_part (wide_meaning others r env)) (narrow s env r h j))
              (λ v w. covered p (binding x b s) (bound x v env) (bound_within n x b v s env h w) (and_left (has_narrow_ranges (binding x b s) p) (has_narrow_ranges (binding x b s) t) i)),
          for_items n (IsValueWithin n) (λ v. Indexed others table t (bound x v env)) b (range_of (plain_part (wide_meaning others r env)))
              (λ j. range_within n (plain_part (wide_meaning others r env)) (narrow s env r h j))
              (λ v w. covered t (binding x b s) (bound x v env) (bound_within n x b v s env h w) (and_right (has_narrow_ranges (binding x b s) p) (has_narrow_ranges (binding x b s) t) i)),
        )
    covered (wide.pair_fold c r k v p) s env h g =
        let b : Bool = is_narrow s r in
        let u : Bool = is_narrow_if (uses k p) b in
        let i : (u && has_narrow_ranges (binding_pair k v b s) p) ≡ true = and_right (has_narrow_ranges s r) (u && has_narrow_ranges (binding_pair k v b s) p) g in (
          covered r s env h (and_left (has_narrow_ranges s r) (u && has_narrow_ranges (binding_pair k v b s) p) g),
          covers_if (uses k p) b (plain_part (wide_meaning others r env)) (λ j. narrow s env r h j) (and_left u (has_narrow_ranges (binding_pair k v b s) p) i),
          for_pairs n (λ e. Indexed others table p (bound v e.1 (bound k e.0 env))) b (pairs_of (plain_part (wide_meaning others r env))) (pair_keys (plain_part (wide_meaning others r env)))
              (λ j. pairs_within n (plain_part (wide_meaning others r env)) (found n) (narrow s env r h j))
              (λ e q w. covered p (binding_pair k v b s) (bound v e.1 (bound k e.0 env)) (pair_bound k v b e s env h q w) (and_right u (has_narrow_ranges (binding_pair k v b s) p) i)),
        )
    covered (wide.pair_filter_map r k v p t) s env h g =
        let b : Bool = is_narrow s r in
        let u : Bool = is_narrow_if (uses k p || uses k t) b in
        let x : Bool = has_narrow_ranges (binding_pair k v b s) p in
        let y : Bool = has_narrow_ranges (binding_pair k v b s) t in
        let i : (u && (x && y)) ≡ true = and_right (has_narrow_ranges s r) (u && (x && y)) g in
        let j : (x && y) ≡ true = and_right u (x && y) i in (
          covered r s env h (and_left (has_narrow_ranges s r) (u && (x && y)) g),
          covers_if (uses k p || uses k t) b (plain_part (wide_meaning others r env)) (λ d. narrow s env r h d) (and_left u (x && y) i),
          for_pairs n (λ e. Indexed others table p (bound v e.1 (bound k e.0 env))) b (pairs_of (plain_part (wide_meaning others r env))) (pair_keys (plain_part (wide_meaning others r env)))
              (λ d. pairs_within n (plain_part (wide_meaning others r env)) (found n) (narrow s env r h d))
              (λ e q w. covered p (binding_pair k v b s) (bound v e.1 (bound k e.0 env)) (pair_bound k v b e s env h q w) (and_left x y j)),
          for_pairs n (λ e. Indexed others table t (bound v e.1 (bound k e.0 env))) b (pairs_of (plain_part (wide_meaning others r env))) (pair_keys (plain_part (wide_meaning others r env)))
              (λ d. pairs_within n (plain_part (wide_meaning others r env)) (found n) (narrow s env r h d))
              (λ e q w. covered t (binding_pair k v b s) (bound v e.1 (bound k e.0 env)) (pair_bound k v b e s env h q w) (and_right x y j)),
        )
    covered (wide.optional_fold c a x t) s env h g =
        let b : Bool = is_narrow s a in (
          covered a s env h (and_left (has_narrow_ranges s a) (has_narrow_ranges (binding x b s) t) g),
          for_value n (λ v. Indexed others table t (bound x v env)) b (wide_meaning others a env) (λ i. narrow_means_within others n s env a h i)
              (λ v w. covered t (binding x b s) (bound x v env) (bound_within n x b v s env h w) (and_right (has_narrow_ranges s a) (has_narrow_ranges (binding x b s) t) g)),
        )
    covered (wide.call f es) s env h g = all_covered es s env h g
    covered (wide.method a f es) s env h g =
        let u : Bool = is_narrow_if (needs_indices f) (is_narrow s a) in
        let i : (u && all_have_narrow_ranges s es) ≡ true = and_right (has_narrow_ranges s a) (u && all_have_narrow_ranges s es) g in (
          covered a s env h (and_left (has_narrow_ranges s a) (u && all_have_narrow_ranges s es) g),
          covers_if (needs_indices f) (is_narrow s a) (plain_part (wide_meaning others a env)) (λ j. narrow s env a h j) (and_left u (all_have_narrow_ranges s es) i),
          all_covered es s env h (and_right u (all_have_narrow_ranges s es) i),
        )

    all_covered : (es : Wides) (s : NarrowNames) (env : WideEnvironment) → IsEnvironmentWithin n s env → all_have_narrow_ranges s es ≡ true → AllIndexed others table es env
    all_covered wide.no_wides s env h g = tt
    all_covered (wide.more_wides a more) s env h g =
        (covered a s env h (and_left (has_narrow_ranges s a) (all_have_narrow_ranges s more) g), all_covered more s env h (and_right (has_narrow_ranges s a) (all_have_narrow_ranges s more) g))

    items_covered : (es : WideItems) (s : NarrowNames) (env : WideEnvironment) → IsEnvironmentWithin n s env → items_have_narrow_ranges s es ≡ true → ItemsIndexed others table es env
    items_covered wide.no_items s env h g = tt
    items_covered (wide.more_items o a more) s env h g =
        (covered a s env h (and_left (has_narrow_ranges s a) (items_have_narrow_ranges s more) g), items_covered more s env h (and_right (has_narrow_ranges s a) (items_have_narrow_ranges s more) g))

    entries_covered : (es : WideEntries) (s : NarrowNames) (env : WideEnvironment) → IsEnvironmentWithin n s env → entries_have_narrow_ranges s es ≡ true → EntriesIndexed others table es env
    entries_covered wide.no_entries s env h g = tt
    entries_covered (wide.more_entries o k v more) s env h g =
        let i : (has_narrow_ranges s v && entries_have_narrow_ranges s more) ≡ true = and_right (has_narrow_ranges s k) (has_narrow_ranges s v && entries_have_narrow_ranges s more) g in
        (covered k s env h (and_left (has_narrow_ranges s k) (has_narrow_ranges s v && entries_have_narrow_ranges s more) g), covered v s env h (and_left (has_narrow_ranges s v) (entries_have_narrow_ranges s more) i), entries_covered more s env h (and_right (has_narrow_ranges s v) (entries_have_narrow_ranges s more) i))

pub narrow_ranges_are_indexed : NarrowRangesAreIndexed
narrow_ranges_are_indexed others n m s env e l h g = covered others n m l e s env h g
