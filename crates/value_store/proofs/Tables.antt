-- The values of a table, with one more appended.
use Rattle.value_store.proofs.Prelude.{◌≡◌, ◌≤◌, ℕ, suc, ◌+◌, List, [], ◌∷◌, ◌++◌, length, Bool, true, false, Some, slice_get, arith, length-append, AllZip, max, if◌then◌else◌, map-append, slice_get-map, ValueOrError, result_depth, charge_limit, deepest, has_first_values, stored, stored_values, Node}

pub within_deepest : (vs : List ValueOrError) (h : ℕ) (v : ValueOrError) → slice_get vs h ≡ Some v → result_depth v ≤ deepest vs
within_deepest (w ∷ vs) (suc h) v e = grind (arith, within_deepest vs h v e)
within_deepest vs h v e = grind arith

deepest-append : (vs : List ValueOrError) (v : ValueOrError) → deepest (vs ++ v ∷ []) ≡ max (deepest vs) (result_depth v)
deepest-append [] v = omega arith
deepest-append (w ∷ vs) v = grind (arith, deepest-append vs v)

-- the invariant of a table
pub record Stands (vs : List ValueOrError) : Type 0 where
  pub first : has_first_values vs ≡ true
  pub shallow : deepest vs ≤ charge_limit + length vs

pub one_more : (vs : List ValueOrError) (v : ValueOrError) → Stands vs → result_depth v ≤ charge_limit + length vs + 1 → Stands (vs ++ v ∷ [])
one_more vs v s fits = grind (arith, deepest-append, length-append)

pub pushed_stands : (ok : Bool) (ns ms : List Node) (n : Node) → ms ≡ (if ok then ns ++ n ∷ [] else ns) → Stands (stored_values ns)
    → result_depth (stored n) ≤ charge_limit + length (stored_values ns) + 1 → Stands (stored_values ms)
pushed_stands true ns ms n e s fits = rw (e, map-append) (one_more (stored_values ns) (stored n) s fits)
pushed_stands false ns ms n e s fits = rw e s

pub stored_at : (ns : List Node) (h : ℕ) (n : Node) → slice_get ns h ≡ Some n → slice_get (stored_values ns) h ≡ Some (stored n)
stored_at ns h n e = grind (arith, slice_get-map)

pub stored_same : (ns ms : List Node) → AllZip (λ n m. stored m ≡ stored n) ns ms → stored_values ms ≡ stored_values ns
stored_same (n ∷ ns) (m ∷ ms) e = grind (arith, stored_same ns ms e.1)
stored_same ns ms e = grind arith
