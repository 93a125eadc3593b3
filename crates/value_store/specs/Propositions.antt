-- `IsOrdered` is a proposition.
use Rattle.std.specs.List.Sorted.{IsStrictlySortedBy-prop}
use mathlib.Core.HLevel.{×_prop, Unit-prop}
use Rattle.value_store.specs.Value.{Value, null, boolean, int, text, list, map, Items, no_items, item, Entries, no_entries, entry, keys_of}
use Rattle.value_store.specs.Keys.{IsOrdered, AreItemsOrdered, AreEntriesOrdered}

mutual
  -- that a value is ordered has at most one proof
  pub ordered_prop : (v : Value) → IsProp (IsOrdered v)
  ordered_prop null = Unit-prop
  ordered_prop (boolean b) = Unit-prop
  ordered_prop (int n) = Unit-prop
  ordered_prop (text s) = Unit-prop
  ordered_prop (list is) = items_prop is
  ordered_prop (map es) = ×_prop (IsStrictlySortedBy-prop _ (keys_of es)) (entries_prop es)

  -- that items are ordered has at most one proof
  items_prop : (is : Items) → IsProp (AreItemsOrdered is)
  items_prop no_items = Unit-prop
  items_prop (item v more) = ×_prop (ordered_prop v) (items_prop more)

  -- that entries are ordered has at most one proof
  entries_prop : (es : Entries) → IsProp (AreEntriesOrdered es)
  entries_prop no_entries = Unit-prop
  entries_prop (entry k v more) = ×_prop (ordered_prop v) (entries_prop more)
