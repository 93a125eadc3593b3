-- The value of a document, and the documents without one.
use Rattle.value_store.proofs.Prelude.{◌≡◌, Some, None, refl, arith, true, false, is_some, not, plain_value, plain_items, plain_entries, value_of, items_value, members_value, has_other, items_have_other, members_have_other}
use Rattle.serde_json.specs.Data as json

mutual
  pub exact : (d : json.Data) → has_other d ≡ not (is_some (value_of d))
  exact (json.array ds) = grind (arith, items_exact ds)
  exact (json.object ms) = grind (arith, members_exact ms)
  exact d = grind arith

  items_exact : (ds : json.Items) → items_have_other ds ≡ not (is_some (items_value ds))
  items_exact json.no_items = refl
  items_exact (json.item d ds) = grind (arith, exact d, items_exact ds)

  members_exact : (ms : json.Members) → members_have_other ms ≡ not (is_some (members_value ms))
  members_exact json.no_members = refl
  members_exact (json.member k d ms) = grind (arith, exact d, members_exact ms)

-- a whole document has its plain value
mutual
  pub whole_value : (d : json.Data) → has_other d ≡ false → value_of d ≡ Some (plain_value d)
  whole_value (json.array ds) e = grind (arith, whole_items ds e)
  whole_value (json.object ms) e = grind (arith, whole_members ms e)
  whole_value d e = grind arith

  whole_items : (ds : json.Items) → items_have_other ds ≡ false → items_value ds ≡ Some (plain_items ds)
  whole_items json.no_items e = refl
  whole_items (json.item d ds) e = grind (arith, whole_value d, whole_items ds)

  whole_members : (ms : json.Members) → members_have_other ms ≡ false → members_value ms ≡ Some (plain_entries ms)
  whole_members json.no_members e = refl
  whole_members (json.member k d ms) e = grind (arith, whole_value d, whole_members ms)

pub other_value : (d : json.Data) → has_other d ≡ true → value_of d ≡ None
other_value d e = grind (arith, exact)
