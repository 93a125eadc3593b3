-- Methods of lists within a width.
use Rattle.std.proofs.Common.{◌≡◌, ◌≤◌, ◌∷◌, [], ℕ, zero, suc, ◌-◌, pos, negsuc, ◌-ℤ◌, nat_le, ◌&&◌, Bool, true, false, List, length, reverse, take, drop, if◌then◌else◌, refl, arith}
use Rattle.std.proofs.lemmas.List.{length-reverse, length-take, length-drop}
use mathlib.Core.List.{reverse_aux}
use Rattle.value_store.specs.Lookup.{has_item}
use Rattle.value_store.specs.Value.{Value, ValueOrError, error, value, null, boolean, int, text, list, map, Items, no_items, item, list_of, items_of, items_push}
use Rattle.value_widths.specs.Width.{width_of, items_width, result_width}
use Rattle.cel_macros.specs.Arithmetic.{fits}
use Rattle.cel_macros.specs.Macros.{all_of}
use Rattle.wide_meaning.specs.ListMethods.{of_items, orders_of, is_sorted, new_items, distinct, reversed, items_between, slice_of}
use Rattle.wide_widths.proofs.Lists.{EachOf, IsShort, IsValueWithin, range_within, listed_within}
use Rattle.wide_widths.proofs.Results.{IsFlat, all_flat}

module _ (n : ℕ) where
  or_error_within : (b : Bool) (x : ValueOrError) → result_width x ≤ n → result_width (if b then x else error) ≤ n
  or_error_within true x h = h
  or_error_within false x h = omega arith

  pub of_items_within : (f : Items → ValueOrError) (x : ValueOrError) → ((is : Items) → width_of (list is) ≤ n → result_width (f is) ≤ n) → result_width x ≤ n → result_width (of_items f x) ≤ n
  of_items_within f error h g = omega arith
  of_items_within f (value null) h g = omega arith
  of_items_within f (value (boolean b)) h g = omega arith
  of_items_within f (value (int z)) h g = omega arith
  of_items_within f (value (text s)) h g = omega arith
  of_items_within f (value (list is)) h g = h is g
  of_items_within f (value (map es)) h g = omega arith

  -- ---- isSorted

  flat_or_error : (b : Bool) (x : ValueOrError) → IsFlat x → IsFlat (if b then x else error)
  flat_or_error true x h = h
  flat_or_error false x h = refl

  sorted_of_list : (is : Items) → IsFlat (is_sorted is)
  sorted_of_list is = flat_or_error (fits (pos (length (list_of is)) -ℤ pos 1)) (all_of (orders_of is)) (all_flat (orders_of is))

  pub sorted_flat : (x : ValueOrError) → IsFlat (of_items is_sorted x)
  sorted_flat error = refl
  sorted_flat (value null) = refl
  sorted_flat (value (boolean b)) = refl
  sorted_flat (value (int z)) = refl
  sorted_flat (value (text s)) = refl
  sorted_flat (value (list is)) = sorted_of_list is
  sorted_flat (value (map es)) = refl

  -- ---- distinct

  shorter : (b : Bool) (v : Value) (rest more : Items) → length (list_of rest) ≤ length (list_of more) → length (list_of (if b then rest else item v rest)) ≤ length (list_of (item v more))
  shorter true v rest more h = omega (arith, h)
  shorter false v rest more h = omega (arith, h)

  narrower : (b : Bool) (v : Value) (rest : Items) → width_of v ≤ n → items_width rest ≤ n → items_width (if b then rest else item v rest) ≤ n
  narrower true v rest h g = g
  narrower false v rest h g = omega (arith, h, g)

  new_length : (before more : Items) → length (list_of (new_items before more)) ≤ length (list_of more)
  new_length before no_items = omega arith
  new_length before (item v more) = shorter (has_item v before) v (new_items (items_push before v) more) more (new_length (items_push before v) more)

  new_width : (before more : Items) → items_width more ≤ n → items_width (new_items before more) ≤ n
  new_width before no_items h = omega arith
  new_width before (item v more) h =
      narrower (has_item v before) v (new_items (items_push before v) more) (omega (arith, h)) (new_width (items_push before v) more (omega (arith, h)))

  pub distinct_within : (is : Items) → width_of (list is) ≤ n → result_width (distinct is) ≤ n
  distinct_within is h = let l = new_length no_items is in let w = new_width no_items is (omega (arith, h)) in omega (arith, l, w, h)

  -- ---- reverse and slice

  each_reversed : (vs ws : List Value) → EachOf (IsValueWithin n) vs → EachOf (IsValueWithin n) ws → EachOf (IsValueWithin n) (reverse_aux vs ws)
  each_reversed [] ws h g = g
  each_reversed (v ∷ vs) ws h g = each_reversed vs (v ∷ ws) h.1 (h.0, g)

  each_dropped : (i : ℕ) (vs : List Value) → EachOf (IsValueWithin n) vs → EachOf (IsValueWithin n) (drop i vs)
  each_dropped zero vs h = h
  each_dropped (suc i) [] h = tt
  each_dropped (suc i) (v ∷ vs) h = each_dropped i vs h.1

  each_taken : (i : ℕ) (vs : List Value) → EachOf (IsValueWithin n) vs → EachOf (IsValueWithin n) (take i vs)
  each_taken zero vs h = tt
  each_taken (suc i) [] h = tt
  each_taken (suc i) (v ∷ vs) h = (h.0, each_taken i vs h.1)

  pub reversed_within : (is : Items) → width_of (list is) ≤ n → result_width (reversed is) ≤ n
  reversed_within is h =
      let s = range_within n (value (list is)) h in
      let e : length (reverse (list_of is)) ≡ length (list_of is) = length-reverse (list_of is) in
      or_error_within (fits (pos (length (list_of is)) -ℤ pos 1)) (value (list (items_of (reverse (list_of is)))))
      (listed_within n (reverse (list_of is)) (let l = s.0 in omega (arith, e, l), each_reversed (list_of is) [] s.1 tt))

  between_within : (a b : ℕ) (is : Items) → width_of (list is) ≤ n → result_width (items_between a b is) ≤ n
  between_within a b is h =
      let s = range_within n (value (list is)) h in
      let d = length-drop a (list_of is) in
      let t = length-take (b - a) (drop a (list_of is)) in
      or_error_within (nat_le a b && nat_le b (length (list_of is))) (value (list (items_of (take (b - a) (drop a (list_of is))))))
      (listed_within n (take (b - a) (drop a (list_of is))) (let l = s.0 in omega (arith, d, t, l), each_taken (b - a) (drop a (list_of is)) (each_dropped a (list_of is) s.1)))

  pub slice_within : (x p q : ValueOrError) → result_width x ≤ n → result_width (slice_of x p q) ≤ n
  slice_within (value (list is)) (value (int (pos a))) (value (int (pos b))) h = between_within a b is h
  slice_within _ _ _ h = omega arith
