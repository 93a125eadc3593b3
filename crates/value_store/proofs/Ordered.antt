-- The values of ordered documents, and of a table's trees, are ordered.
use Rattle.value_store.proofs.Prelude.{◌≡◌, ℕ, suc, List, [], ◌∷◌, ◌++◌, Some, Result, Ok, Err, map, Bool, false, BTreeMap, String, Global, refl, sym, subst, arith, rules, AllByRecursion, IsOk, slice_get, ⊤, nat_le, if◌then◌else◌, view, view-Object, Value, ValueOrError, value, keys_of, depth_of, IsOrdered, AreItemsOrdered, AreEntriesOrdered, AreOrdered, member_keys, IsDocumentOrdered, AreElementsOrdered, AreMembersOrdered, Contents, first_values, charge_limit, IsCanonicalAt, AreCanonical, has_other, roots_of, sizes, contents_of, plain_value, plain_items, plain_entries, stored_values, Node, TableError, RootsTooLarge, StartIsOrdered, StartIsCanonical}
use Rattle.std.specs.List.Sorted.{IsStrictlySortedBy}
use Rattle.serde_json.specs.Data as json
use Rattle.serde_json.specs.declared.value.Value as document
use Rattle.value_store.specs.Value as kind
use Rattle.value_store.proofs.Starting.{started}

keys_same : (ms : json.Members) → keys_of (plain_entries ms) ≡ member_keys ms
keys_same json.no_members = refl
keys_same (json.member k d ms) = grind (arith, keys_same ms)

mutual
  pub value_ordered : (d : json.Data) → IsDocumentOrdered d → IsOrdered (plain_value d)
  value_ordered (json.array ds) h = items_ordered ds h
  value_ordered (json.object ms) h = grind (arith, keys_same, entries_ordered ms h.1)
  value_ordered _ h = tt

  items_ordered : (ds : json.Items) → AreElementsOrdered ds → AreItemsOrdered (plain_items ds)
  items_ordered json.no_items h = tt
  items_ordered (json.item d ds) h = (value_ordered d h.0, items_ordered ds h.1)

  entries_ordered : (ms : json.Members) → AreMembersOrdered ms → AreEntriesOrdered (plain_entries ms)
  entries_ordered json.no_members h = tt
  entries_ordered (json.member k d ms) h = (value_ordered d h.0, entries_ordered ms h.1)

-- the values of a table's nodes are ordered
pub nodes_ordered : (ns : List Node) → AreOrdered (stored_values ns)
nodes_ordered [] = tt
nodes_ordered (n ∷ ns) = grind (arith, nodes_ordered ns)

roots_ordered : (ds : List json.Data) → AllByRecursion IsDocumentOrdered ds → AreOrdered (map value (map plain_value ds))
roots_ordered [] h = tt
roots_ordered (d ∷ ds) h = (value_ordered d h.0, roots_ordered ds h.1)

pub start_is_ordered : StartIsOrdered
start_is_ordered ds c ordered e = grind (arith, started ds (subst (λ r. IsOk r) (sym e) refl), roots_ordered ds ordered)

-- ---- the roots are null or maps

abbrev IsRootValue : Value → Type 0
IsRootValue kind.null = ⊤
IsRootValue (kind.map es) = ⊤
IsRootValue _ = ⊥

roots_kind : (place : ℕ) (ds : List json.Data) (vs : List Value) → roots_of place ds ≡ Ok vs → AllByRecursion IsRootValue vs
roots_kind place [] vs e = grind arith
roots_kind place (d ∷ ds) vs e = grind (arith, roots_kind (suc place) ds)

free : (vs : List Value) (h : ℕ) (x : ValueOrError) (n : ℕ) → AllByRecursion IsRootValue vs → slice_get (map value vs) h ≡ Some x → IsCanonicalAt x n
free (v ∷ vs) (suc h) x n r e = free vs h x n r.1 e
free vs h x n r e = grind arith

canonical_roots : (vs : List Value) → AllByRecursion IsRootValue vs → AreCanonical (first_values ++ map value vs)
canonical_roots vs r h x e = grind (arith, free)

limited_values : (b : Bool) (vs : List Value) (c : Contents) → (if b then Ok (record { values = first_values ++ map value vs; charge = sizes vs }) else Err RootsTooLarge) ≡ Ok c → first_values ++ map value vs ≡ c.values
limited_values b vs c e = grind arith

canonical_by : (r : Result (List Value) TableError) (c : Contents) → ((vs : List Value) → r ≡ Ok vs → AllByRecursion IsRootValue vs) → contents_of r ≡ Ok c → AreCanonical c.values
canonical_by (Ok vs) c f e = subst AreCanonical (limited_values (nat_le (sizes vs) charge_limit) vs c e) (canonical_roots vs (f vs refl))
canonical_by (Err x) c f e = absurd (cc)

pub start_is_canonical : StartIsCanonical
start_is_canonical ds c e = search (rules, canonical_by, roots_kind)

-- ---- an object without members

pub record Fresh (d : json.Data) : Type 0 where
  pub whole : has_other d ≡ false
  pub deep : 1 ≡ depth_of (plain_value d)
  pub ordered : IsOrdered (plain_value d)

fresh_object : Fresh (json.object json.no_members)
unfolding IsStrictlySortedBy
fresh_object = grind arith

pub empty_fresh : (m : BTreeMap (String Global) document.Value) → m.entries ≡ [] → Fresh (view (document.Object m))
empty_fresh m e = grind (arith, view-Object, fresh_object)
