-- The values of the roots, in order.
use Rattle.value_store.proofs.Prelude.{◌≡◌, ◌≤◌, ◌<◌, ℕ, suc, ◌+◌, ◌^◌, List, [], ◌∷◌, ◌++◌, map, Result, Ok, Err, false, refl, sym, ap, ◌∙◌, subst, arith, append_assoc, rules, IsOk, view, Value, ValueOrError, value, size_of, depth_of, items_size, items_depth, entries_size, entries_depth, Contents, IsStore, first_values, charge_limit, has_other, root_of, before, roots_of, sizes, start_contents, StoreStarts, plain_value, saturated, size_in, charge_in, deepest, TableError, Memory}
use Rattle.serde_json.specs.Data as json
use Rattle.serde_json.specs.declared.value.Value as document
use Rattle.value_store.specs.Value as kind
use Rattle.value_store.proofs.Documents.{whole_value, other_value}
use Rattle.value_store.proofs.Tables.{Stands}

-- these values, followed by those of the rest or its error
abbrev pub behind : List Value → Result (List Value) TableError → Result (List Value) TableError
behind vs (Ok ws) = Ok (vs ++ ws)
behind vs (Err e) = Err e

-- the charge of the roots before an index
pub record Judging (all rest : List json.Data) (place charge : ℕ) : Type 0 where
  pub done : List Value
  pub left : roots_of 4 all ≡ behind done (roots_of place rest)
  pub charge_is : charge ≡ saturated (sizes done)

sizes-append : (vs : List Value) (v : Value) → sizes (vs ++ v ∷ []) ≡ sizes vs + size_of v
sizes-append [] v = omega arith
sizes-append (w ∷ vs) v = grind (arith, sizes-append vs v)

behind_more : (vs : List Value) (v : Value) (r : Result (List Value) TableError) → behind vs (before v r) ≡ behind (vs ++ v ∷ []) r
behind_more vs v r = grind (arith, append_assoc)

pub judging_step : (all : List json.Data) (d : json.Data) (rest : List json.Data) (place charge size : ℕ) → Judging all (d ∷ rest) place charge → Ok size ≡ size_in (root_of place d)
    → Judging all rest (suc place) (saturated (charge + size))
judging_step all d rest place charge size go e = grind (arith, behind_more, sizes-append)

-- ---- roots that are valid

abbrev pub AllWhole : List json.Data → Type 0
AllWhole [] = Unit {0}
AllWhole (d ∷ ds) = (has_other d ≡ false) × AllWhole ds

-- each document is whole, and their sizes are within the limit
pub record Welcome (ds : List json.Data) : Type 0 where
  pub whole : AllWhole ds
  pub small : sizes (map plain_value ds) ≤ charge_limit

record Known (ds : List json.Data) (vs : List Value) : Type 0 where
  whole : AllWhole ds
  values_are : vs ≡ map plain_value ds

roots_known : (place : ℕ) (ds : List json.Data) (vs : List Value) → roots_of place ds ≡ Ok vs → Known ds vs
roots_known place [] vs e = grind arith
roots_known place (d ∷ ds) vs e = grind (arith, other_value, whole_value, roots_known (suc place) ds)

pub record Started (ds : List json.Data) : Type 0 where
  pub welcome : Welcome ds
  pub is : start_contents ds ≡ Ok (record { values = first_values ++ map value (map plain_value ds); charge = sizes (map plain_value ds) })

pub started : (ds : List json.Data) → IsOk (start_contents ds) → Started ds
started ds ok = search (rules, roots_known)

pub charged_ok : (r : Result Contents TableError) (n : ℕ) → Ok n ≡ charge_in r → IsOk r
charged_ok r n e = grind arith

-- ---- a value is no deeper than it is large

mutual
  pub shallow : (v : Value) → depth_of v ≤ size_of v
  shallow (kind.list is) = grind (arith, shallow_items is)
  shallow (kind.map es) = grind (arith, shallow_entries es)
  shallow _ = omega arith

  shallow_items : (is : kind.Items) → items_depth is ≤ items_size is
  shallow_items kind.no_items = omega arith
  shallow_items (kind.item v is) = grind (arith, shallow v, shallow_items is)

  shallow_entries : (es : kind.Entries) → entries_depth es ≤ entries_size es
  shallow_entries kind.no_entries = omega arith
  shallow_entries (kind.entry k v es) = grind (arith, shallow v, shallow_entries es)

shallow_all : (vs : List Value) → deepest (map value vs) ≤ sizes vs
shallow_all [] = omega arith
shallow_all (v ∷ vs) = grind (arith, shallow, shallow_all vs)

pub start_stands : (vs : List ValueOrError) (ws : List Value) → vs ≡ first_values ++ map value ws → sizes ws ≤ charge_limit → Stands vs
start_stands vs ws e small = grind (arith, shallow, shallow_all)

-- ---- the roots before an index are valid, and so is the next

pub next_shallow : (d : json.Data) (ds : List json.Data) → Welcome (d ∷ ds) → depth_of (plain_value d) < 2 ^ 64
next_shallow d ds w = grind (arith, shallow)

-- ---- a root is never refused for an allocation failure

no_memory_roots : (place : ℕ) (ds : List json.Data) → roots_of place ds ≡ Err Memory → ⊥
no_memory_roots place [] e = cc
no_memory_roots place (d ∷ ds) e = grind (arith, no_memory_roots (suc place) ds)

-- the error of the charge is the result that is due
pub refused : {S : Type 0} (contents : S → Contents) (ds : List json.Data) (x : TableError) → Err x ≡ charge_in (start_contents ds) → StoreStarts contents (start_contents ds) (Err x)
refused contents ds x e = grind (arith, no_memory_roots)

-- ---- the whole table

map_plain : (xs : List document.Value) → map (λ root. value (plain_value (view root))) xs ≡ map value (map plain_value (map view xs))
map_plain [] = refl
map_plain (x ∷ xs) = grind (arith, map_plain xs)

pub record Opened (xs : List document.Value) (charge : ℕ) (vs : List ValueOrError) : Type 0 where
  pub stands : Stands vs
  pub is : start_contents (map view xs) ≡ Ok (record { values = vs; charge = charge })

-- these values and this charge are due
pub due : (ds : List json.Data) (charge : ℕ) (vs : List ValueOrError) → Ok charge ≡ charge_in (start_contents ds)
    → vs ≡ first_values ++ map value (map plain_value ds) → start_contents ds ≡ Ok (record { values = vs; charge = charge })
due ds charge vs e f = grind (arith, started ds (charged_ok (start_contents ds) charge e))

pub opened : (xs : List document.Value) (charge : ℕ) (vs : List ValueOrError) → Ok charge ≡ charge_in (start_contents (map view xs))
    → vs ≡ first_values ++ map (λ root. value (plain_value (view root))) xs → Opened xs charge vs
opened xs charge vs e f =
    let start = started (map view xs) (charged_ok (start_contents (map view xs)) charge e) in
    let values_are : vs ≡ first_values ++ map value (map plain_value (map view xs)) = f ∙ ap (λ ws. first_values ++ ws) (map_plain xs) in
    record { stands = start_stands vs (map plain_value (map view xs)) values_are start.welcome.small; is = due (map view xs) charge vs e values_are }

store_of : List Value → Contents
store_of vs = record { values = first_values ++ map value vs; charge = sizes vs }

pub start_is_store : (ds : List json.Data) (c : Contents) → start_contents ds ≡ Ok c → IsStore c
unfolding store_of
start_is_store ds c e =
    let start = started ds (subst (λ r. IsOk r) (sym e) refl) in
    let vs = map plain_value ds in
    let both : Ok (store_of vs) ≡ Ok c = sym start.is ∙ e in
    let same : store_of vs ≡ c = cc in
    subst (λ x. IsStore x) same (record { more = map value vs; values_are = refl; charged = start.welcome.small })
