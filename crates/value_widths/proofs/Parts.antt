-- No part of a value is wider than the value.
use Rattle.std.proofs.Common.{◌≡◌, ◌≤◌, ℕ, zero, suc, max, Bool, true, false, List, Option, Some, slice_get, arith, bytes_eq, if◌then◌else◌}
use Rattle.value_store.specs.Lookup.{find}
use Rattle.value_store.specs.Value.{Value, Items, no_items, item, list_of, Entries, no_entries, entry}
use Rattle.value_widths.specs.Parts.{PartsAreNarrower}
use Rattle.value_widths.specs.Width.{width_of, items_width, entries_width}

item_fits : (is : Items) (i : ℕ) (v : Value) → slice_get (list_of is) i ≡ Some v → width_of v ≤ items_width is
item_fits no_items i v e = grind arith
item_fits (item w is) zero v e = grind arith
item_fits (item w is) (suc i) v e = let h = item_fits is i v e in omega arith

found : (b : Bool) (w : Value) (o : Option Value) (v : Value) (n : ℕ) → (o ≡ Some v → width_of v ≤ n)
    → (if b then Some w else o) ≡ Some v → width_of v ≤ max (width_of w) n
found true w o v n h e = grind arith
found false w o v n h e = let g = h e in omega arith

entry_fits : (es : Entries) (key : List ℕ) (v : Value) → find key es ≡ Some v → width_of v ≤ entries_width es
entry_fits no_entries key v e = grind arith
entry_fits (entry k w es) key v e = found (bytes_eq k key) w (find key es) v (entries_width es) (entry_fits es key v) e

pub parts_are_narrower : PartsAreNarrower
parts_are_narrower = record {
  items = λ is. omega arith;
  entries = λ es. omega arith;
  item = λ is i v e. let h = item_fits is i v e in omega arith;
  entry = λ es key v e. let h = entry_fits es key v e in omega arith;
}
