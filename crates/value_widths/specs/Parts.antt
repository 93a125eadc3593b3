-- No part of a value is wider than the value.
use Rattle.std.specs.Prelude.{◌≡◌, ◌≤◌, ℕ, List, length, Some, slice_get}
use Rattle.value_store.specs.Lookup.{find}
use Rattle.value_store.specs.Value.{Value, list, map, Items, list_of, Entries, keys_of}
use Rattle.value_widths.specs.Width.{width_of}

pub record PartsAreNarrower : Type 0 where
  -- a list has at most as many items as its width, a map as many entries
  pub items : (is : Items) → length (list_of is) ≤ width_of (list is)
  pub entries : (es : Entries) → length (keys_of es) ≤ width_of (map es)
  -- an item of a list, and the value of a map's key
  pub item : (is : Items) (i : ℕ) (v : Value) → slice_get (list_of is) i ≡ Some v → width_of v ≤ width_of (list is)
  pub entry : (es : Entries) (key : List ℕ) (v : Value) → find key es ≡ Some v → width_of v ≤ width_of (map es)
