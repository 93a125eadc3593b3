-- The text of a whole document is that of its value.
use Rattle.value_store.proofs.Prelude.{◌≡◌, Bool, true, false, refl, arith, compact_text, items_text as json_items_text, members_text, has_float, items_have_float, members_have_float, json_text, entries_text, has_other, items_have_other, members_have_other, plain_value, plain_items, plain_entries}
use Rattle.serde_json.specs.Data as json
use Rattle.value_store.specs.Json.{items_text}

mutual
  pub text_same : (d : json.Data) → has_other d ≡ false → compact_text d ≡ json_text (plain_value d)
  text_same (json.array ds) e = grind (arith, items_text_same false ds e)
  text_same (json.object ms) e = grind (arith, members_text_same false ms e)
  text_same d e = grind arith

  items_text_same : (later : Bool) (ds : json.Items) → items_have_other ds ≡ false → json_items_text later ds ≡ items_text later (plain_items ds)
  items_text_same later json.no_items e = refl
  items_text_same later (json.item d ds) e = grind (arith, text_same d, items_text_same true ds)

  members_text_same : (later : Bool) (ms : json.Members) → members_have_other ms ≡ false → members_text later ms ≡ entries_text later (plain_entries ms)
  members_text_same later json.no_members e = refl
  members_text_same later (json.member k d ms) e = grind (arith, text_same d, members_text_same true ms)

mutual
  pub no_float : (d : json.Data) → has_other d ≡ false → has_float d ≡ false
  no_float (json.array ds) e = no_float_items ds e
  no_float (json.object ms) e = no_float_members ms e
  no_float d e = grind arith

  no_float_items : (ds : json.Items) → items_have_other ds ≡ false → items_have_float ds ≡ false
  no_float_items json.no_items e = refl
  no_float_items (json.item d ds) e = grind (arith, no_float d, no_float_items ds)

  no_float_members : (ms : json.Members) → members_have_other ms ≡ false → members_have_float ms ≡ false
  no_float_members json.no_members e = refl
  no_float_members (json.member k d ms) e = grind (arith, no_float d, no_float_members ms)
