-- Lists of values within a width, and what macros make of them.
use Rattle.std.proofs.Common.{◌≡◌, ◌≤◌, ◌∷◌, [], ℕ, suc, Bool, true, false, cond, List, length, map as each, filter, Option, Some, None, refl, arith, if◌then◌else◌, unwrap_or}
use Rattle.std.specs.List.{list_any}
use Rattle.value_store.specs.Lookup.{find}
use Rattle.value_store.specs.Value.{Value, null, boolean, int, text, list, map, Items, no_items, item, list_of, items_of, Entries, no_entries, entry, keys_of}
use Rattle.value_store.specs.Value.{ValueOrError, error, value}
use Rattle.value_widths.specs.Width.{width_of, items_width, entries_width, result_width}
use Rattle.cel_macros.specs.Literals.{list_literal, list_or_error, values_in, with_value}
use Rattle.cel_macros.specs.Macros.{range_of, is_yes, is_other, where_true}
use Rattle.cel_macros.specs.Logic.{Truth, truth}
use Rattle.wide_meaning.specs.Ranges.{pairs_of, numbered, keyed}

-- what holds of each item
abbrev pub EachOf : {A : Type 0} → (A → Type 0) → List A → Type 0
EachOf P [] = Unit {0}
EachOf P (x ∷ xs) = P x × EachOf P xs

-- at most n items, of which each has the property
abbrev pub IsShort : {A : Type 0} → ℕ → (A → Type 0) → List A → Type 0
IsShort n P xs = (length xs ≤ n) × EachOf P xs

-- the same of a list that may be missing
abbrev pub IsShortIf : {A : Type 0} → ℕ → (A → Type 0) → Option (List A) → Type 0
IsShortIf n P None = Unit {0}
IsShortIf n P (Some xs) = IsShort n P xs

module _ (n : ℕ) where
  -- a value, and a pair of values
  abbrev pub IsValueWithin : Value → Type 0
  IsValueWithin v = width_of v ≤ n

  abbrev pub IsPairWithin : Value × Value → Type 0
  IsPairWithin e = (width_of e.0 ≤ n) × (width_of e.1 ≤ n)

  -- ---- lists of values

  length_same : (vs : List Value) → length (list_of (items_of vs)) ≡ length vs
  length_same [] = refl
  length_same (v ∷ vs) = let h = length_same vs in omega (arith, h)

  items_within : (vs : List Value) → EachOf IsValueWithin vs → items_width (items_of vs) ≤ n
  items_within [] h = omega arith
  items_within (v ∷ vs) h = let g = items_within vs h.1 in omega (arith, g, h.0)

  pub listed_within : (vs : List Value) → IsShort n IsValueWithin vs → width_of (list (items_of vs)) ≤ n
  listed_within vs h = let e = length_same vs in let g = items_within vs h.1 in omega (arith, e, g, h.0)

  pub list_within : (o : Option (List Value)) → IsShortIf n IsValueWithin o → result_width (list_or_error o) ≤ n
  list_within None h = omega arith
  list_within (Some vs) h = listed_within vs h

  -- ---- ranges

  each_item : (is : Items) → items_width is ≤ n → EachOf IsValueWithin (list_of is)
  each_item no_items h = tt
  each_item (item v is) h = (omega (arith, h), each_item is (omega (arith, h)))

  each_text : (ks : List (List ℕ)) → EachOf IsValueWithin (each text ks)
  each_text [] = tt
  each_text (k ∷ ks) = (omega arith, each_text ks)

  texts_length : (ks : List (List ℕ)) → length (each text ks) ≡ length ks
  texts_length [] = refl
  texts_length (k ∷ ks) = let h = texts_length ks in omega (arith, h)

  pub range_within : (x : ValueOrError) → result_width x ≤ n → IsShortIf n IsValueWithin (range_of x)
  range_within error h = tt
  range_within (value null) h = tt
  range_within (value (boolean b)) h = tt
  range_within (value (int z)) h = tt
  range_within (value (text s)) h = tt
  range_within (value (list is)) h = (omega (arith, h), each_item is (omega (arith, h)))
  range_within (value (map es)) h = (let e = texts_length (keys_of es) in omega (arith, e, h), each_text (keys_of es))

  numbered_length : (i : ℕ) (vs : List Value) → length (numbered i vs) ≡ length vs
  numbered_length i [] = refl
  numbered_length i (v ∷ vs) = let h = numbered_length (suc i) vs in omega (arith, h)

  each_numbered : (i : ℕ) (vs : List Value) → EachOf IsValueWithin vs → EachOf IsPairWithin (numbered i vs)
  each_numbered i [] h = tt
  each_numbered i (v ∷ vs) h = ((omega arith, h.0), each_numbered (suc i) vs h.1)

  found_within : (o : Option Value) (v : Value) → ((w : Value) → o ≡ Some w → width_of w ≤ n) → width_of v ≤ n → width_of (unwrap_or o v) ≤ n
  found_within None v h g = g
  found_within (Some w) v h g = h w refl

  keyed_length : (fs es : Entries) → length (keyed fs es) ≡ length (keys_of es)
  keyed_length fs no_entries = refl
  keyed_length fs (entry k v es) = let h = keyed_length fs es in omega (arith, h)

  each_keyed : (fs es : Entries) → ((k : List ℕ) (w : Value) → find k fs ≡ Some w → width_of w ≤ n) → entries_width es ≤ n → EachOf IsPairWithin (keyed fs es)
  each_keyed fs no_entries h g = tt
  each_keyed fs (entry k v es) h g = ((omega arith, found_within (find k fs) v (h k) (omega (arith, g))), each_keyed fs es h (omega (arith, g)))

  pub pairs_within : (x : ValueOrError) → ((es : Entries) (k : List ℕ) (w : Value) → width_of (map es) ≤ n → find k es ≡ Some w → width_of w ≤ n)
      → result_width x ≤ n → IsShortIf n IsPairWithin (pairs_of x)
  pairs_within error f h = tt
  pairs_within (value null) f h = tt
  pairs_within (value (boolean b)) f h = tt
  pairs_within (value (int z)) f h = tt
  pairs_within (value (text s)) f h = tt
  pairs_within (value (list is)) f h =
      (let e = numbered_length 0 (list_of is) in omega (arith, e, h), each_numbered 0 (list_of is) (each_item is (omega (arith, h))))
  pairs_within (value (map es)) f h =
      (let e = keyed_length es es in omega (arith, e, h), each_keyed es es (λ k w. f es k w h) (omega (arith, h)))

  -- ---- what is made of each item

  one_more : (x : ValueOrError) (m : ℕ) (o : Option (List Value)) → result_width x ≤ n → IsShortIf m IsValueWithin o → IsShortIf (suc m) IsValueWithin (with_value x o)
  one_more error m o h g = tt
  one_more (value v) m None h g = tt
  one_more (value v) m (Some vs) h g = (let l = g.0 in omega (arith, l), (h, g.1))

  pub mapped : {A : Type 0} (P : A → Type 0) (f : A → ValueOrError) (m : ℕ) (xs : List A) → ((x : A) → P x → result_width (f x) ≤ n)
      → IsShort m P xs → IsShortIf (length xs) IsValueWithin (values_in (each f xs))
  mapped P f m [] h g = (omega arith, tt)
  mapped P f m (x ∷ xs) h g =
      one_more (f x) (length xs) (values_in (each f xs)) (h x g.1.0) (mapped P f m xs h (let l = g.0 in omega (arith, l), g.1.1))

  weaker : (m : ℕ) (o : Option (List Value)) → m ≤ n → IsShortIf m IsValueWithin o → IsShortIf n IsValueWithin o
  weaker m None l h = tt
  weaker m (Some vs) l h = (let g = h.0 in omega (arith, g, l), h.1)

  pub mapped_within : {A : Type 0} (P : A → Type 0) (f : A → ValueOrError) (xs : List A) → ((x : A) → P x → result_width (f x) ≤ n)
      → IsShort n P xs → result_width (list_literal (each f xs)) ≤ n
  mapped_within P f xs h g = list_within (values_in (each f xs)) (weaker (length xs) (values_in (each f xs)) g.0 (mapped P f n xs h g))

  -- ---- the items for which a test holds

  kept : {A : Type 0} (P : A → Type 0) (m : ℕ) (b : Bool) (x : A) (ys : List A) → P x → IsShort m P ys → IsShort (suc m) P (cond b (x ∷ ys) ys)
  kept P m true x ys h g = (let l = g.0 in omega (arith, l), (h, g.1))
  kept P m false x ys h g = (let l = g.0 in omega (arith, l), g.1)

  filtered : {A : Type 0} (P : A → Type 0) (test : A → Bool) (xs : List A) → EachOf P xs → IsShort (length xs) P (filter test xs)
  filtered P test [] h = (omega arith, tt)
  filtered P test (x ∷ xs) h = kept P (length xs) (test x) x (filter test xs) h.0 (filtered P test xs h.1)

  pub filtered_within : {A : Type 0} (P : A → Type 0) (test : A → Bool) (xs : List A) → IsShort n P xs → IsShort n P (filter test xs)
  filtered_within P test xs h = let g = filtered P test xs h.1 in (let l = g.0 in let k = h.0 in omega (arith, l, k), g.1)

  error_or_within : (b : Bool) (x : ValueOrError) → result_width x ≤ n → result_width (if b then error else x) ≤ n
  error_or_within true x h = omega arith
  error_or_within false x h = h

  pub where_within : (p : Value → Truth) (result : List Value → ValueOrError) (vs : List Value)
      → ((ws : List Value) → IsShort n IsValueWithin ws → result_width (result ws) ≤ n)
      → IsShort n IsValueWithin vs → result_width (where_true p result vs) ≤ n
  where_within p result vs h g =
      error_or_within (list_any (λ x. is_other (p x)) vs) (result (filter (λ x. is_yes (p x)) vs))
      (h (filter (λ x. is_yes (p x)) vs) (filtered_within IsValueWithin (λ x. is_yes (p x)) vs g))

  pub pairs_where_within : (p f : Value × Value → ValueOrError) (ps : List (Value × Value))
      → ((e : Value × Value) → IsPairWithin e → result_width (f e) ≤ n) → IsShort n IsPairWithin ps
      → result_width (if list_any (λ x. is_other (truth (p x))) ps then error else list_literal (each f (filter (λ x. is_yes (truth (p x))) ps))) ≤ n
  pairs_where_within p f ps h g =
      error_or_within (list_any (λ x. is_other (truth (p x))) ps) (list_literal (each f (filter (λ x. is_yes (truth (p x))) ps)))
      (mapped_within IsPairWithin f (filter (λ x. is_yes (truth (p x))) ps) h (filtered_within IsPairWithin (λ x. is_yes (truth (p x))) ps g))
