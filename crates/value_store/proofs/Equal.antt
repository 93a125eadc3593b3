-- Deep equality is equality of values.
use Rattle.value_store.proofs.Prelude.{◌≡◌, true, ◌&&◌, bytes_eq, refl, arith, and_parts, bytes_eq-Decides as bytes_decides, Value, list, Items, no_items, item, Entries, no_entries, entry, equal, items_equal, entries_equal, EqualDecides}
use Rattle.value_store.specs.Value.{map}

mutual
  value_same : (a b : Value) → equal a b ≡ true → a ≡ b
  value_same (list a) (list b) e = grind (arith, items_same a b e)
  value_same (map a) (map b) e = grind (arith, entries_same a b e)
  value_same a b e = grind (arith, bytes_decides)

  items_same : (a b : Items) → items_equal a b ≡ true → a ≡ b
  items_same (item a xs) (item b ys) e =
      grind (arith, value_same a b (and_parts (equal a b) (items_equal xs ys) e).0, items_same xs ys (and_parts (equal a b) (items_equal xs ys) e).1)
  items_same a b e = grind arith

  entries_same : (a b : Entries) → entries_equal a b ≡ true → a ≡ b
  entries_same (entry k a xs) (entry l b ys) e =
      let rest = (and_parts (bytes_eq k l) (equal a b && entries_equal xs ys) e).1 in
      let both = and_parts (equal a b) (entries_equal xs ys) rest in
      grind (arith, and_parts, bytes_decides, value_same a b both.0, entries_same xs ys both.1)
  entries_same a b e = grind arith

mutual
  value_own : (a : Value) → equal a a ≡ true
  value_own (list a) = items_own a
  value_own (map a) = entries_own a
  value_own a = grind (arith, bytes_decides)

  items_own : (a : Items) → items_equal a a ≡ true
  items_own no_items = refl
  items_own (item a xs) = grind (arith, value_own a, items_own xs)

  entries_own : (a : Entries) → entries_equal a a ≡ true
  entries_own no_entries = refl
  entries_own (entry k a xs) = grind (arith, bytes_decides, value_own a, entries_own xs)

pub equal_decides : EqualDecides
equal_decides a b = grind (arith, value_same, value_own)
