-- The results of `exists_one`, `filter` and `map` from item to item.
use Rattle.cel_macros.proofs.Prelude.{◌≡◌, ℕ, ◌+◌, Bool, cond, List, [], ◌∷◌, ◌++◌, Option, Some, option_map, filter, nat_eq, pos, fold, map, refl, ap, ◌∙◌, append_assoc, append-nil, add-zero, arith, list_any, Value, ValueOrError, error, value, boolean, int, list, items_of, items_push, Truth, truth, with_value, values_in, list_or_error, ExistsOne, Filter, Map, is_yes, is_other, exists_one_of, map_of, where_true, push_parts, step_of, start_of, end_of, map_step, folded_map}

abbrev of_list : List Value → ValueOrError
of_list vs = value (list (items_of vs))

push_is : (vs : List Value) (w : Value) → items_push (items_of vs) w ≡ items_of (vs ++ w ∷ [])
push_is [] w = refl
push_is (v ∷ vs) w = grind (arith, push_is vs w)

-- ---- an error stays

count_error : (f : Value → ValueOrError) (items : List Value) → fold (step_of ExistsOne f) error items ≡ error
count_error f [] = refl
count_error f (v ∷ items) = grind (arith, count_error f items)

map_error : (f : Value → ValueOrError) (items : List Value) → fold (step_of Map f) error items ≡ error
map_error f [] = refl
map_error f (v ∷ items) = map_error f items

filter_error : (f : Value → ValueOrError) (items : List Value) → fold (step_of Filter f) error items ≡ error
filter_error f [] = refl
filter_error f (v ∷ items) = grind (arith, filter_error f items)

map_where_error : (p : Value → Truth) (f : Value → ValueOrError) (items : List Value) → fold (map_step p f) error items ≡ error
map_where_error p f [] = refl
map_where_error p f (v ∷ items) = grind (arith, map_where_error p f items)

-- ---- exists_one

abbrev counted : ℕ → Bool → List Truth → ValueOrError
counted n other ts = cond other error (value (boolean (nat_eq (fold (λ a x. a + cond (is_yes x) 1 0) n ts) 1)))

abbrev Counts : (Value → ValueOrError) → List Value → Type 0
Counts f items = (n : ℕ) → end_of ExistsOne (fold (step_of ExistsOne f) (value (int (pos n))) items) ≡ counted n (list_any is_other (map (λ x. truth (f x)) items)) (map (λ x. truth (f x)) items)

counts : (f : Value → ValueOrError) (items : List Value) → Counts f items
counts f [] n = refl
counts f (v ∷ items) n = grind (arith, add-zero, count_error, counts f items)

pub folds_exists_one : (f : Value → ValueOrError) (items : List Value)
    → end_of ExistsOne (fold (step_of ExistsOne f) (start_of ExistsOne) items) ≡ exists_one_of (map (λ x. truth (f x)) items)
folds_exists_one f items = counts f items 0

-- ---- filter

abbrev Filters : (Value → ValueOrError) → List Value → Type 0
Filters f items = (kept : List Value) → fold (step_of Filter f) (of_list kept) items ≡ cond (list_any (λ x. is_other (truth (f x))) items) error (of_list (kept ++ filter (λ x. is_yes (truth (f x))) items))

filters : (f : Value → ValueOrError) (items : List Value) → Filters f items
filters f [] kept = grind (arith, append-nil)
filters f (v ∷ items) kept = grind (arith, push_is, append_assoc, filter_error, filters f items)

pub folds_filter : (f : Value → ValueOrError) (items : List Value) → fold (step_of Filter f) (start_of Filter) items ≡ where_true (λ x. truth (f x)) (λ kept. list_or_error (Some kept)) items
folds_filter f items = filters f items []

-- ---- map

regrouped : (kept : List Value) (w : Value) (o : Option (List Value))
    → list_or_error (option_map (λ vs. (kept ++ w ∷ []) ++ vs) o) ≡ list_or_error (option_map (λ vs. kept ++ vs) (option_map (λ vs. w ∷ vs) o))
regrouped kept w o = grind (arith, append_assoc)

from_none : (o : Option (List Value)) → list_or_error (option_map (λ vs. [] ++ vs) o) ≡ list_or_error o
from_none o = grind arith

abbrev Maps : (Value → ValueOrError) → List Value → Type 0
Maps f items = (kept : List Value) → fold (step_of Map f) (of_list kept) items ≡ list_or_error (option_map (λ vs. kept ++ vs) (values_in (map f items)))

map_one : (f : Value → ValueOrError) (items kept : List Value) (x : ValueOrError) → Maps f items
    → fold (step_of Map f) (push_parts (Some (items_of kept)) x) items ≡ list_or_error (option_map (λ vs. kept ++ vs) (with_value x (values_in (map f items))))
map_one f items kept error ih = map_error f items
map_one f items kept (value w) ih =
    ap (λ is. fold (step_of Map f) (value (list is)) items) (push_is kept w)
    ∙ ih (kept ++ w ∷ [])
    ∙ regrouped kept w (values_in (map f items))

maps : (f : Value → ValueOrError) (items : List Value) → Maps f items
maps f [] kept = grind (arith, append-nil)
maps f (v ∷ items) kept = grind (arith, map_one, maps f items)

pub folds_map : (f : Value → ValueOrError) (items : List Value) → fold (step_of Map f) (start_of Map) items ≡ map_of f items
folds_map f items = maps f items [] ∙ from_none (values_in (map f items))

-- ---- map with a predicate

module _ (p : Value → Truth) (f : Value → ValueOrError) where
  abbrev others : List Value → Bool
  others items = list_any (λ x. is_other (p x)) items

  abbrev chosen_values : List Value → Option (List Value)
  chosen_values items = values_in (map f (filter (λ x. is_yes (p x)) items))

  abbrev MapsWhere : List Value → Type 0
  MapsWhere items = (kept : List Value) → fold (map_step p f) (of_list kept) items ≡ cond (others items) error (list_or_error (option_map (λ vs. kept ++ vs) (chosen_values items)))

  error_either_way : (b : Bool) → error ≡ cond b error error
  error_either_way b = grind arith

  where_yes : (items kept : List Value) (x : ValueOrError) → MapsWhere items → fold (map_step p f) (push_parts (Some (items_of kept)) x) items ≡ cond (others items) error (list_or_error (option_map (λ vs. kept ++ vs) (with_value x (chosen_values items))))
  where_yes items kept error ih = map_where_error p f items ∙ error_either_way (others items)
  where_yes items kept (value w) ih =
      ap (λ is. fold (map_step p f) (value (list is)) items) (push_is kept w)
      ∙ ih (kept ++ w ∷ [])
      ∙ ap (λ r. cond (others items) error r) (regrouped kept w (chosen_values items))

  maps_where : (items : List Value) → MapsWhere items
  maps_where [] kept = grind (arith, append-nil)
  maps_where (v ∷ items) kept = grind (arith, where_yes, map_where_error, maps_where items)

  pub folds_map_where : (items : List Value) → folded_map p f (Some items) ≡ where_true p (map_of f) items
  folds_map_where items = maps_where items [] ∙ ap (λ r. cond (others items) error r) (from_none (chosen_values items))
