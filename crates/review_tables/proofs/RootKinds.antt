-- Which values may be roots.
use Rattle.value_table.proofs.Prelude.{◌≡◌, ℕ, Bool, true, false, List, Option, Some, None, Err, inl, inr, if◌then◌else◌, sym, ap, ◌∙◌, refl, arith, Value, value_in}
use Rattle.serde_json.specs.Data as json
use Rattle.value_store.specs.Roots.{is_root, root_value, root_of, value_of}
use Rattle.value_store.specs.declared.table_error.TableError.TheVariants.{NotAnObject}
use Rattle.review_tables.specs.Reading.{PlacesValue}
use Rattle.review_tables.specs.RootKind.{is_root_value, IsRootOrRefused}
use Rattle.review_tables.specs.declared.placed.Placed.{Placed}

told : (d : json.Data) (v : Value) → value_of d ≡ Some v → is_root d ≡ is_root_value v
told json.null v e = grind arith
told (json.boolean b) v e = grind arith
told (json.number n) v e = grind arith
told (json.string s) v e = grind arith
told (json.array ds) v e = grind arith
told (json.object ms) v e = grind arith

refused : (b : Bool) (vs : List Value) (place : ℕ) (o : Option Value) → o ≡ None → IsRootOrRefused vs place None (if b then root_value place o else Err (NotAnObject place))
refused true vs place o e = inr (ap (root_value place) e)
refused false vs place o e = inl refl

pub gives_none : (vs : List Value) (place : ℕ) (d : json.Data) → PlacesValue vs None (value_of d) → IsRootOrRefused vs place None (root_of place d)
gives_none vs place d a = refused (is_root d) vs place (value_of d) (sym a.is)

pub gives_some : (vs : List Value) (place : ℕ) (d : json.Data) (p : Placed) → PlacesValue vs (Some p) (value_of d) → is_root_value (value_in vs p.place) ≡ true → IsRootOrRefused vs place (Some p) (root_of place d)
gives_some vs place d p a e =
    let root : is_root d ≡ true = told d (value_in vs p.place) (sym a.is) ∙ e in
    rw root (ap (root_value place) (sym a.is))

pub gives_other : (vs : List Value) (place : ℕ) (d : json.Data) (p : Placed) → PlacesValue vs (Some p) (value_of d) → is_root_value (value_in vs p.place) ≡ false → IsRootOrRefused vs place None (root_of place d)
gives_other vs place d p a e =
    let root : is_root d ≡ false = told d (value_in vs p.place) (sym a.is) ∙ e in
    inl (rw root refl)
