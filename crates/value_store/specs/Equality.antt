-- Deep equality (cel-spec, Equality): values of different kinds are unequal.
use Rattle.std.specs.Prelude.{Bool, true, false, not, ◌&&◌, ℤ, pos, negsuc, nat_eq, bytes_eq}
use Rattle.value_store.specs.Value.{Value, null, boolean, int, text, list, map, Items, no_items, item, Entries, no_entries, entry}

-- whether two bools are equal
abbrev pub truth_equal : Bool → Bool → Bool
truth_equal true b = b
truth_equal false b = not b

-- whether two ints are equal
abbrev pub int_equal : ℤ → ℤ → Bool
int_equal (pos a) (pos b) = nat_eq a b
int_equal (negsuc a) (negsuc b) = nat_eq a b
int_equal _ _ = false

abbrev mutual
  -- whether two values are equal: of one kind and the same, lists and maps part by part (cel-spec, Equality)
  pub equal : Value → Value → Bool
  equal null null = true
  equal (boolean a) (boolean b) = truth_equal a b
  equal (int a) (int b) = int_equal a b
  equal (text a) (text b) = bytes_eq a b
  equal (list xs) (list ys) = items_equal xs ys
  equal (map xs) (map ys) = entries_equal xs ys
  equal _ _ = false

  -- whether two lists of items have the same length and equal items at each position
  pub items_equal : Items → Items → Bool
  items_equal no_items no_items = true
  items_equal (item a xs) (item b ys) = equal a b && items_equal xs ys
  items_equal _ _ = false

  -- whether two maps have the same number of entries, with equal keys and equal values at each position
  pub entries_equal : Entries → Entries → Bool
  entries_equal no_entries no_entries = true
  entries_equal (entry k a xs) (entry l b ys) = bytes_eq k l && (equal a b && entries_equal xs ys)
  entries_equal _ _ = false
