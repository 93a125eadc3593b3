-- The code of macros, within the budgets of their parts.
use Rattle.tree_code.proofs.Prelude.{◌≡◌, ℕ, zero, suc, ◌+◌, ◌<◌, Bool, true, List, [], ◌∷◌, Option, Some, refl, ap, ◌∙◌, arith, subst, slice_get, Insn, Value, ValueOrError, Macro, folded, folded_map, Truth, Yes, chosen, truth, range_of, map_over_range, over_range, ComputesPart, Cost, ◌and◌, each_item, kept, kept_by, node, nothing, one_visit, spent_by, macro_cost, map_cost, macro_code, map_where_code, Context, RunContext, IsItem, each_spent, each_visits, items_spent, items_visits, with_item, size, macro_gives, gives_within, map_where_gives, Core, method_or_fold, method_or_fold_map, fold_maps_mean, folds_mean, deepest, need, with_name, Variable, code_of, texts_of, IsAccepted, fold_limit}
use Rattle.tree_code.proofs.Subexpressions.{Subexpression, Valued, PerItem, InMacro, valued, per_item}
use Rattle.expression_code.proofs.Sites.{Site, site_at, in_frame}
use Rattle.cel_macros.specs.CoreTree as core
use Rattle.tree_code.proofs.Parts.{Part, result_size_least, or_left, or_right, texts_back, texts_front}
use Rattle.std.specs.Option.{option_map_or}

-- the items; none if the value is neither a list nor a map
abbrev items_cost : (Value → Cost) → Option (List Value) → Cost
items_cost f o = option_map_or (each_item f) o nothing

pub right_deep : (a b : Cost) → b.is_deep ≡ true → (a and b).is_deep ≡ true
right_deep a b e = or_right a.is_deep b.is_deep e

-- ---- the cost of a range's items

module _ (f : Value → Cost) where
  each_visits_are : (vs : List Value) → (each_item f vs).visits ≡ each_visits (λ v. (f v).visits) vs
  each_visits_are [] = refl
  each_visits_are (v ∷ vs) = ap (λ (n : ℕ). 1 + (f v).visits + n) (each_visits_are vs)

  pub visits_are : (o : Option (List Value)) → (items_cost f o).visits ≡ items_visits (λ v. (f v).visits) o
  visits_are o = grind (arith, each_visits_are)

  each_spent_is : (vs : List Value) → spent_by (each_item f vs) ≡ each_spent (λ v. spent_by (f v)) vs
  each_spent_is [] = refl
  each_spent_is (v ∷ vs) = let more = each_spent_is vs in omega arith

  pub spent_is : (o : Option (List Value)) → spent_by (items_cost f o) ≡ items_spent (λ v. spent_by (f v)) o
  spent_is o = grind (arith, each_spent_is)

  -- if an item has a value that is too deep, so has the whole range
  each_deep : (vs : List Value) (i : ℕ) (v : Value) → slice_get vs i ≡ Some v → (f v).is_deep ≡ true → (each_item f vs).is_deep ≡ true
  each_deep [] i v at deep = absurd (cc)
  each_deep (w ∷ vs) zero v at deep = let same : w ≡ v = cc in or_left (f w).is_deep (each_item f vs).is_deep (ap (λ (u : Value). (f u).is_deep) same ∙ deep)
  each_deep (w ∷ vs) (suc i) v at deep = right_deep (one_visit and f w) (each_item f vs) (each_deep vs i v at deep)

  pub item_deep : (r : ValueOrError) (v : Value) → IsItem r v → (f v).is_deep ≡ true → (items_cost f (range_of r)).is_deep ≡ true
  item_deep r v inside deep = grind (arith, each_deep)

-- ---- macros with one part

-- the cost of each item, given the cost of its part
abbrev pub item_cost : Macro → (Value → ValueOrError) → (Value → Cost) → Value → Cost
item_cost m f part v = part v and kept_by m v (f v)

pub macro_computes : (m : Macro) (site : Site) (range : Valued) (part : PerItem) (n : List ℕ)
    → site.frame.base < fold_limit
    → ComputesPart site.setting site.slot range.code site.frame.context site.frame.depth site.frame.base range.value range.cost
    → ((v : Value) → IsItem range.value v → ComputesPart site.setting (site.slot + size range.code + 17) part.code (with_item site.frame.context site.frame.base n v) site.frame.depth (site.frame.base + 5) (part.value v) (part.cost v))
    → ((items_cost (item_cost m part.value part.cost) (range_of range.value)).is_deep ≡ true → site.setting.is_deep ≡ true)
    → ComputesPart site.setting site.slot (macro_code m site.frame.base range.code part.code) site.frame.context site.frame.depth site.frame.base (folded m part.value (range_of range.value)) (node (folded m part.value (range_of range.value)) and range.cost and items_cost (item_cost m part.value part.cost) (range_of range.value))
macro_computes m site range part n low gives_range gives_part may =
    let g = item_cost m part.value part.cost in
    let visits = visits_are g (range_of range.value) in
    let spent = spent_is g (range_of range.value) in
    let sized = result_size_least (folded m part.value (range_of range.value)) in
    gives_within site.setting site.slot (macro_code m site.frame.base range.code part.code) site.frame.context site.frame.depth site.frame.base (folded m part.value (range_of range.value)) _ _ _ _ (omega arith) (omega arith)
    (macro_gives m site.setting site.slot site.frame.base site.frame.depth range.code part.code site.frame.context n range.value part.value range.cost.visits (spent_by range.cost) (λ v. (g v).visits) (λ v. spent_by (g v)) low gives_range
    (λ v inside. gives_within site.setting (site.slot + size range.code + 17) part.code (with_item site.frame.context site.frame.base n v) site.frame.depth (site.frame.base + 5) (part.value v) _ _ _ _ (omega arith) (omega arith) (gives_part v inside))
    (λ v inside deep. may (item_deep g range.value v inside (right_deep (part.cost v) (kept_by m v (part.value v)) (grind arith)))))

-- ---- `map` with a predicate

-- the cost of each item: its predicate gives t and costs first, its transform gives f and costs second
abbrev pub where_cost : (Value → ValueOrError) → (Value → ValueOrError) → (Value → Cost) → (Value → Cost) → Value → Cost
where_cost t f first second v = first v and chosen (truth (t v)) (second v and kept (f v)) nothing nothing

chosen_visits : (t : Truth) (a b : Cost) → a.visits + chosen t b.visits 0 0 ≡ (a and chosen t b nothing nothing).visits
chosen_visits t a b = grind arith

chosen_spent : (t : Truth) (a b : Cost) → spent_by a + chosen t (spent_by b) 0 0 ≡ spent_by (a and chosen t b nothing nothing)
chosen_spent t a b = grind arith

-- a value that is too deep counts if the predicate is true
pub chosen_deep : (t : Truth) (a b : Cost) → t ≡ Yes → b.is_deep ≡ true → (a and chosen t b nothing nothing).is_deep ≡ true
chosen_deep t a b is deep = right_deep a (chosen t b nothing nothing) (ap (λ (u : Truth). (chosen u b nothing nothing).is_deep) is ∙ deep)

pub map_where_computes : (site : Site) (range : Valued) (predicate transform : PerItem) (n : List ℕ)
    → site.frame.base < fold_limit
    → ComputesPart site.setting site.slot range.code site.frame.context site.frame.depth site.frame.base range.value range.cost
    → ((v : Value) → IsItem range.value v → ComputesPart site.setting (site.slot + size range.code + 17) predicate.code (with_item site.frame.context site.frame.base n v) site.frame.depth (site.frame.base + 5) (predicate.value v) (predicate.cost v))
    → ((v : Value) → IsItem range.value v → truth (predicate.value v) ≡ Yes → ComputesPart site.setting (site.slot + size range.code + 17 + size predicate.code + 2) transform.code (with_item site.frame.context site.frame.base n v) site.frame.depth (site.frame.base + 5) (transform.value v) (transform.cost v))
    → ((items_cost (where_cost predicate.value transform.value predicate.cost transform.cost) (range_of range.value)).is_deep ≡ true → site.setting.is_deep ≡ true)
    → ComputesPart site.setting site.slot (map_where_code site.frame.base range.code predicate.code transform.code) site.frame.context site.frame.depth site.frame.base (folded_map (λ v. truth (predicate.value v)) transform.value (range_of range.value)) (node (folded_map (λ v. truth (predicate.value v)) transform.value (range_of range.value)) and range.cost and items_cost (where_cost predicate.value transform.value predicate.cost transform.cost) (range_of range.value))
map_where_computes site range predicate transform n low gives_range gives_predicate gives_transform may =
    let g = where_cost predicate.value transform.value predicate.cost transform.cost in
    let more : Value → Cost = λ v. transform.cost v and kept (transform.value v) in
    let visits = visits_are g (range_of range.value) in
    let spent = spent_is g (range_of range.value) in
    let same_visits = ap (λ (h : Value → ℕ). items_visits h (range_of range.value)) (λ i v. chosen_visits (truth (predicate.value v)) (predicate.cost v) (more v) i) in
    let same_spent = ap (λ (h : Value → ℕ). items_spent h (range_of range.value)) (λ i v. chosen_spent (truth (predicate.value v)) (predicate.cost v) (more v) i) in
    let sized = result_size_least (folded_map (λ v. truth (predicate.value v)) transform.value (range_of range.value)) in
    gives_within site.setting site.slot (map_where_code site.frame.base range.code predicate.code transform.code) site.frame.context site.frame.depth site.frame.base (folded_map (λ v. truth (predicate.value v)) transform.value (range_of range.value)) _ _ _ _ (omega arith) (omega arith)
    (map_where_gives site.setting site.slot site.frame.base site.frame.depth range.code predicate.code transform.code site.frame.context n range.value predicate.value transform.value range.cost.visits (spent_by range.cost) (λ v. (predicate.cost v).visits) (λ v. spent_by (predicate.cost v)) (λ v. (more v).visits) (λ v. spent_by (more v)) low gives_range gives_predicate
    (λ v inside is. gives_within site.setting (site.slot + size range.code + 17 + size predicate.code + 2) transform.code (with_item site.frame.context site.frame.base n v) site.frame.depth (site.frame.base + 5) (transform.value v) _ _ _ _ (omega arith) (omega arith) (gives_transform v inside is))
    (λ v inside is deep. may (item_deep g range.value v inside (chosen_deep (truth (predicate.value v)) (predicate.cost v) (more v) is (right_deep (transform.cost v) (kept (transform.value v)) deep)))))

-- ---- macros of the grammar, given that the code of their parts gives their values within their budgets

module _ (s : RunContext) (scope : List Variable) (rs : List (List ℕ × ℕ)) (texts : List (List ℕ)) (depth : ℕ) (c : Context) (k : ℕ) where
  -- the code at a slot of a range, and of a part that runs for each item
  abbrev range_code : Core → ℕ → List Insn
  range_code e p = code_of e texts rs c.words k p

  abbrev part_code : List ℕ → Core → ℕ → List Insn
  part_code i e p = code_of e texts rs (with_name i (k + 4) c.words) (k + 5) p

  module _ (m : Macro) (i : List ℕ) (a p : Core) (r : ValueOrError) (t : Cost) (f : Value → ValueOrError) (each : Value → Cost) where
    -- the cost of an item, without the visit of the item itself
    abbrev costs_of : Value → Cost
    costs_of v = each v and kept_by m v (f v)

    pub macro_part : Part s scope rs texts depth c k a r t → ((v : Value) → Part s scope rs texts depth (with_item c k i v) (k + 5) p (f v) (each v))
        → Part s scope rs texts depth c k (core.fold m i a p) (folded m f (range_of r)) (node (folded m f (range_of r)) and t and items_cost costs_of (range_of r))
    unfolding code_of need deepest texts_of IsAccepted
    macro_part range part ready q =
        macro_computes m (site_at s q (in_frame c depth k)) (valued (range_code a q) r t) (per_item (part_code i p (q + size (range_code a q) + 17)) f each) i (omega arith)
        (range (grind (arith, texts_front, or_left)) q) (λ v inside. part v (grind (arith, texts_back, or_right, or_left, item_deep costs_of r v inside)) _)
        (λ d. ready.may (grind (arith, or_right)))

  pub fold_part : (m : Option Macro) (o : Option (List ℕ)) (n : List ℕ) (of : Subexpression) (x : Core) (body : InMacro) → Part s scope rs texts depth c k of.core of.value of.cost → ((i : List ℕ) (v : Value) → Part s scope rs texts depth (with_item c k i v) (k + 5) body.core (body.value i v) (body.cost i v)) → Part s scope rs texts depth c k (method_or_fold m o n of.core x body.core) (over_range m o body.value (range_of of.value)) (node (over_range m o body.value (range_of of.value)) and of.cost and macro_cost m o body.cost body.value (range_of of.value))
  unfolding IsAccepted
  fold_part (Some m) (Some i) n of x body range part =
      subst (λ (z : ValueOrError). Part s scope rs texts depth c k (core.fold m i of.core body.core) z (node z and of.cost and macro_cost (Some m) (Some i) body.cost body.value (range_of of.value))) (folds_mean m i body.value (range_of of.value))
      (macro_part m i of.core body.core of.value of.cost (body.value i) (body.cost i) range (part i))
  fold_part _ _ n of x body range part = λ ready q. absurd ready.accepted

  module _ (i : List ℕ) (a p d : Core) (r : ValueOrError) (t : Cost) (g f : Value → ValueOrError) (each then_costs : Value → Cost) where
    abbrev where_costs : Value → Cost
    where_costs v = each v and chosen (truth (g v)) (then_costs v and kept (f v)) nothing nothing

    pub map_where_part : Part s scope rs texts depth c k a r t → ((v : Value) → Part s scope rs texts depth (with_item c k i v) (k + 5) p (g v) (each v)) → ((v : Value) → Part s scope rs texts depth (with_item c k i v) (k + 5) d (f v) (then_costs v)) → Part s scope rs texts depth c k (core.fold_map i a p d) (folded_map (λ v. truth (g v)) f (range_of r)) (node (folded_map (λ v. truth (g v)) f (range_of r)) and t and items_cost where_costs (range_of r))
    unfolding code_of need deepest texts_of IsAccepted
    map_where_part range predicate transform ready q =
        let u = q + size (range_code a q) + 17 in
        map_where_computes (site_at s q (in_frame c depth k)) (valued (range_code a q) r t) (per_item (part_code i p u) g each) (per_item (part_code i d (u + size (part_code i p u) + 2)) f then_costs) i (omega arith)
        (range (grind (arith, texts_front, or_left)) q)
        (λ v inside. predicate v (grind (arith, texts_front, texts_back, or_right, or_left, item_deep where_costs r v inside)) _)
        (λ v inside e. transform v (grind (arith, texts_back, or_right, or_left, item_deep where_costs r v inside)) _) (λ h. ready.may (grind (arith, or_right)))

  pub fold_map_part : (b : Bool) (o : Option (List ℕ)) (n : List ℕ) (of : Subexpression) (x : Core) (test body : InMacro) → Part s scope rs texts depth c k of.core of.value of.cost → ((i : List ℕ) (v : Value) → Part s scope rs texts depth (with_item c k i v) (k + 5) test.core (test.value i v) (test.cost i v)) → ((i : List ℕ) (v : Value) → Part s scope rs texts depth (with_item c k i v) (k + 5) body.core (body.value i v) (body.cost i v)) → Part s scope rs texts depth c k (method_or_fold_map b o n of.core x test.core body.core) (map_over_range b o test.value body.value (range_of of.value)) (node (map_over_range b o test.value body.value (range_of of.value)) and of.cost and map_cost b o test.cost (λ i v. truth (test.value i v)) (λ i v. body.cost i v and kept (body.value i v)) (range_of of.value))
  unfolding IsAccepted
  fold_map_part true (Some i) n of x test body range predicate transform =
      subst (λ (z : ValueOrError). Part s scope rs texts depth c k (core.fold_map i of.core test.core body.core) z (node z and of.cost and map_cost true (Some i) test.cost (λ j v. truth (test.value j v)) (λ j v. body.cost j v and kept (body.value j v)) (range_of of.value))) (fold_maps_mean i test.value body.value (range_of of.value))
      (map_where_part i of.core test.core body.core of.value of.cost (test.value i) (body.value i) (test.cost i) (body.cost i) range (predicate i) (transform i))
  fold_map_part _ _ n of x test body range predicate transform = λ ready q. absurd ready.accepted
