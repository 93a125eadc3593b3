-- Roots with a table of indices beside the params.
use Rattle.std.proofs.Common.{◌≡◌, ◌<◌, ◌≤◌, ℕ, zero, suc, ◌+◌, min, Bool, true, false, ◌&&◌, List, [], ◌∷◌, ◌++◌, map, Option, Some, None, is_some, IsSome, slice_get, slice_index_or, refl, sym, ap, ◌∙◌, arith, subst}
use Rattle.std.proofs.lemmas.Option.{get_or_from_slice_get}
use Rattle.value_store.specs.Calls.{value_at}
use Rattle.value_store.specs.Placing.{Contents, first_values, charge_limit}
use Rattle.value_store.specs.Size.{items_size}
use Rattle.value_store.specs.Value.{Value, ValueOrError, error, value, items_of}
use Rattle.value_table.specs.Held.{Held, held_contents}
use Rattle.value_table.specs.Rooted.{HaveValues, picked}
use Rattle.cel_macros.specs.Environment.{Roots}
use Rattle.wide_translation.specs.Indexed.{ints_from}
use Rattle.wide_translation.specs.Placed.{with_tables}
use Rattle.wide_indices.specs.Tables.{index_tables, table_length}
use Rattle.wide_tables.specs.Building.{HasAdded}
use Rattle.wide_tables.specs.Wrapping.{root_values, contents_of, wrapped_roots, have_roots, is_value_at}
use Rattle.wide_tables.proofs.Added.{stays_same, has_result}

and_left : (a b : Bool) → (a && b) ≡ true → a ≡ true
and_left true b h = refl
and_left false b h = h

and_right : (a b : Bool) → (a && b) ≡ true → b ≡ true
and_right true b h = h
and_right false b h = absurd (cc)

some_is : {A : Type 0} (o : Option A) → is_some o ≡ true → IsSome o
some_is None h = absurd (cc)
some_is (Some x) h = refl

-- ---- roots of a table

-- the references of the roots
pub record AreValues (vs : List ValueOrError) : Type 0 where
  pub object : is_value_at vs 4 ≡ true
  pub old_object : is_value_at vs 5 ≡ true
  pub params : is_value_at vs 6 ≡ true
  pub namespace_object : is_value_at vs 7 ≡ true
  pub request : is_value_at vs 8 ≡ true

pub are_values : (vs : List ValueOrError) → have_roots vs ≡ true → AreValues vs
are_values vs h =
    let a : Bool = is_value_at vs 4 in
    let b : Bool = is_value_at vs 5 in
    let c : Bool = is_value_at vs 6 in
    let d : Bool = is_value_at vs 7 in
    let e : Bool = is_value_at vs 8 in
    let four : (((a && b) && c) && d) ≡ true = and_left (((a && b) && c) && d) e h in
    let three : ((a && b) && c) ≡ true = and_left ((a && b) && c) d four in
    let two : (a && b) ≡ true = and_left (a && b) c three in
    record {
      object = and_left a b two;
      old_object = and_right a b two;
      params = and_right (a && b) c three;
      namespace_object = and_right ((a && b) && c) d four;
      request = and_right (((a && b) && c) && d) e h;
    }

pub params_there : (vs : List ValueOrError) → have_roots vs ≡ true → IsSome (value_at (slice_get vs 6))
params_there vs h = some_is (value_at (slice_get vs 6)) (are_values vs h).params

-- ---- charges

ints_size : (i n : ℕ) → items_size (items_of (ints_from i n)) ≡ n
ints_size i zero = refl
ints_size i (suc n) = let h = ints_size (suc i) n in omega (arith, h)

-- what the tables add to the charge
pub wrapped_charge : (r : Roots) → (contents_of (wrapped_roots r)).charge ≡ ((contents_of r).charge + table_length r) + 9
wrapped_charge r = let n = ints_size 0 (table_length r) in omega (arith, n)

-- ---- the roots that are placed

value_kept : (old new : Held) (g h : ℕ) (v : Value) → HasAdded old new g v → is_value_at old.values h ≡ true → IsSome (value_at (slice_get new.values h))
value_kept old new g h v a k =
    let s : IsSome (value_at (slice_get old.values h)) = some_is (value_at (slice_get old.values h)) k in
    subst (λ (o : Option ValueOrError). IsSome (value_at o)) (sym (stays_same old new g h v a (has_result (slice_get old.values h) s))) s

pub roots_there : (old new : Held) (h : ℕ) (v : Value) → HasAdded old new h v → have_roots old.values ≡ true → HaveValues new.values (4 ∷ 5 ∷ h ∷ 7 ∷ 8 ∷ [])
roots_there old new h v a k =
    let r = are_values old.values k in
    let params : IsSome (value_at (slice_get new.values h)) = subst (λ (o : Option ValueOrError). IsSome (value_at o)) (sym a.there) refl in
    (value_kept old new h 4 v a r.object, (value_kept old new h 5 v a r.old_object, (params, (value_kept old new h 7 v a r.namespace_object, (value_kept old new h 8 v a r.request, tt)))))

pub values_of : (old : Held) (r : Roots) → held_contents old ≡ contents_of r → old.values ≡ first_values ++ map value (root_values r)
values_of old r e = ap (λ (c : Contents). c.values) e

picked_roots : (old new : Held) (h : ℕ) (r : Roots) → held_contents old ≡ contents_of r → HasAdded old new h (with_tables (index_tables (table_length r)) r.params)
    → picked new.values (4 ∷ 5 ∷ h ∷ 7 ∷ 8 ∷ []) ≡ map value (root_values (wrapped_roots r))
picked_roots old new h r e a =
    let ws : List ValueOrError = first_values ++ map value (root_values r) in
    let vs : new.values ≡ ws ++ a.more = a.values ∙ ap (λ us. us ++ a.more) (values_of old r e) in
    let x : ValueOrError = value (with_tables (index_tables (table_length r)) r.params) in
    let there : slice_index_or new.values h error ≡ x = get_or_from_slice_get new.values h x error a.there in
    λ i. slice_index_or (vs i) 4 error ∷ slice_index_or (vs i) 5 error ∷ there i ∷ slice_index_or (vs i) 7 error ∷ slice_index_or (vs i) 8 error ∷ []

-- the contents that are due
pub due_is : (old new : Held) (h n charge : ℕ) (t : Held) (r : Roots) → held_contents old ≡ contents_of r → n ≡ table_length r
    → HasAdded old new h (with_tables (index_tables n) r.params) → charge ≡ (old.charge + n) + 9
    → t ≡ record { values = first_values ++ picked new.values (4 ∷ 5 ∷ h ∷ 7 ∷ 8 ∷ []); charge = charge }
    → contents_of (wrapped_roots r) ≡ held_contents t
due_is old new h n charge t r e m a k is =
    let b : HasAdded old new h (with_tables (index_tables (table_length r)) r.params) = subst (λ (j : ℕ). HasAdded old new h (with_tables (index_tables j) r.params)) m a in
    let vs = picked_roots old new h r e b in
    let own : old.charge ≡ (contents_of r).charge = ap (λ (c : Contents). c.charge) e in
    let whole = wrapped_charge r in
    let sum : charge ≡ (contents_of (wrapped_roots r)).charge = omega (arith, whole, own, m, k) in
    sym (ap held_contents is ∙ (λ i. record { values = first_values ++ vs i; charge = sum i }))

-- the roots are too large
pub too_large : (old : Held) (n charge : ℕ) (r : Roots) → held_contents old ≡ contents_of r → n ≡ table_length r → charge ≤ (old.charge + n) + 9 → charge_limit < charge
    → charge_limit < (contents_of (wrapped_roots r)).charge
too_large old n charge r e m k l =
    let own : old.charge ≡ (contents_of r).charge = ap (λ (c : Contents). c.charge) e in
    let whole = wrapped_charge r in
    omega (arith, whole, own, m, k, l)

-- a table without roots is not that of any
pub no_roots : (old : Held) (r : Roots) → held_contents old ≡ contents_of r → have_roots old.values ≡ false → ⊥
no_roots old r e n = let t : have_roots old.values ≡ true = ap have_roots (values_of old r e) in absurd (cc)

-- a sum within the limit
pub sum_is : (k n s charge : ℕ) → s ≡ min (k + n) 18446744073709551615 → charge ≡ min (s + 9) 18446744073709551615 → charge ≤ 16777216 → charge ≡ (k + n) + 9
sum_is k n s charge p q l = omega (arith, p, q, l)

pub sum_most : (k n s charge : ℕ) → s ≡ min (k + n) 18446744073709551615 → charge ≡ min (s + 9) 18446744073709551615 → charge ≤ (k + n) + 9
sum_most k n s charge p q = omega (arith, p, q)

-- the value at a reference that has one
the_value : (o : Option ValueOrError) → IsSome (value_at o) → (p : Value) × (o ≡ Some (value p))
the_value None h = absurd (cc)
the_value (Some error) h = absurd (cc)
the_value (Some (value v)) h = (v, refl)

-- the map is added for any value of the params
abbrev pub AddsFor : Held → Held → ℕ → ℕ → Type 0
AddsFor old new h n = (p : Value) → slice_get old.values 6 ≡ Some (value p) → HasAdded old new h (with_tables (index_tables n) p)

pub five_there : (old new : Held) (h n : ℕ) → have_roots old.values ≡ true → AddsFor old new h n → HaveValues new.values (4 ∷ 5 ∷ h ∷ 7 ∷ 8 ∷ [])
five_there old new h n k a =
    let p = the_value (slice_get old.values 6) (params_there old.values k) in
    roots_there old new h (with_tables (index_tables n) p.0) (a p.0 p.1) k

pub wrapped_ends : (old new : Held) (h n k s charge : ℕ) (t : Held) (r : Roots) → held_contents old ≡ contents_of r → n ≡ table_length r → AddsFor old new h n → k ≡ old.charge
    → s ≡ min (k + n) 18446744073709551615 → charge ≡ min (s + 9) 18446744073709551615 → charge ≤ 16777216
    → t ≡ record { values = first_values ++ picked new.values (4 ∷ 5 ∷ h ∷ 7 ∷ 8 ∷ []); charge = charge }
    → (contents_of (wrapped_roots r) ≡ held_contents t) × ((contents_of (wrapped_roots r)).charge ≤ charge_limit)
wrapped_ends old new h n k s charge t r e m a own p q l is =
    let there : slice_get old.values 6 ≡ Some (value r.params) = ap (λ vs. slice_get vs 6) (values_of old r e) in
    let sum = sum_is k n s charge p q l in
    let due = due_is old new h n charge t r e m (a r.params there) (omega (arith, sum, own)) is in
    let within : t.charge ≤ charge_limit = subst (λ (u : Held). u.charge ≤ charge_limit) (sym is) l in
    (due, subst (λ (c : Contents). c.charge ≤ charge_limit) (sym due) within)

pub wrapped_refused : (old : Held) (n k s charge : ℕ) (r : Roots) → held_contents old ≡ contents_of r → n ≡ table_length r → k ≡ old.charge
    → s ≡ min (k + n) 18446744073709551615 → charge ≡ min (s + 9) 18446744073709551615 → charge_limit < charge
    → charge_limit < (contents_of (wrapped_roots r)).charge
wrapped_refused old n k s charge r e m own p q l =
    let most = sum_most k n s charge p q in too_large old n charge r e m (omega (arith, most, own)) l
