-- When a value is among those that an expression can have.
use Rattle.std.specs.Prelude.{◌≡◌, ℕ, List, Some}
use Rattle.std.specs.List.{Contains}
use Rattle.value_store.specs.Value.{Value, Items, Entries, text, list, map, list_of, keys_of}
use Rattle.value_store.specs.Lookup.{find}
use Rattle.wide_reach.specs.Parts.{items, keys, fields}

-- The value is reached by these values: it is one of them; or a list, whose items are reached by the items of these; or
-- a map, whose keys are among the keys of these, and whose value at each key is reached by the values of these at that
-- key. So a null, bool, int or text that is reached is one of them.
pub data IsReached : List Value → Value → Type 0 where
  one : {vs : List Value} {v : Value} → Contains vs v → IsReached vs v
  of_list : {vs : List Value} {is : Items} → ((v : Value) → Contains (list_of is) v → IsReached (items vs) v) → IsReached vs (list is)
  of_map : {vs : List Value} {es : Entries} → ((k : List ℕ) → Contains (keys_of es) k → Contains (keys vs) (text k))
      → ((k : List ℕ) (v : Value) → find k es ≡ Some v → IsReached (fields k vs) v) → IsReached vs (map es)
