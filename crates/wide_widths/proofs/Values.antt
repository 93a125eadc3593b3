-- Values and their parts within a width.
use Rattle.std.proofs.Common.{◌≡◌, ◌≤◌, ℕ, suc, List, length, Option, Some, None, slice_get, option_map, refl, arith, pos, negsuc}
use Rattle.std.specs.declared.cmp.Ordering.{Ordering, TheVariants.Less, TheVariants.Equal, TheVariants.Greater}
use Rattle.std.specs.Ordering.{nat_cmp}
use Rattle.std.specs.Cmp.Lexicographic.{slice_cmp}
use Rattle.value_store.specs.Lookup.{find, inserted, inserted_by}
use Rattle.value_store.specs.Value.{Value, null, boolean, int, text, list, map, Items, list_of, Entries, no_entries, entry, keys_of}
use Rattle.value_store.specs.Value.{ValueOrError, error, value}
use Rattle.value_widths.specs.Width.{width_of, entries_width, result_width}
use Rattle.value_widths.proofs.Parts.{parts_are_narrower}
use Rattle.cel_macros.specs.Environment.{value_or_error}
use Rattle.cel_macros.specs.Selection.{field_of, index_of}
use Rattle.wide_reader.specs.declared.wide.Access.{Access, TheVariants.Plain, TheVariants.Optional}
use Rattle.wide_meaning.specs.Access.{sel, at, field_in, index_in}
use Rattle.wide_meaning.specs.Outcome.{Outcome, failed, plain, absent, present, outcome_of, plain_part, optional_of, some_of, is_present}
use Rattle.wide_widths.specs.Law.{IsOutcomeWithin}

module _ (n : ℕ) where
  pub outcome_within : (x : ValueOrError) → result_width x ≤ n → IsOutcomeWithin n (outcome_of x)
  outcome_within error h = tt
  outcome_within (value v) h = h

  pub plain_within : (o : Outcome) → IsOutcomeWithin n o → result_width (plain_part o) ≤ n
  plain_within failed h = omega arith
  plain_within (plain v) h = h
  plain_within absent h = omega arith
  plain_within (present v) h = omega arith

  pub some_within : (o : Outcome) → IsOutcomeWithin n o → IsOutcomeWithin n (some_of o)
  some_within failed h = tt
  some_within (plain v) h = h
  some_within absent h = tt
  some_within (present v) h = tt

  pub present_within : (o : Outcome) → IsOutcomeWithin n (is_present o)
  present_within failed = tt
  present_within (plain v) = tt
  present_within absent = omega arith
  present_within (present v) = omega arith

  -- ---- parts

  optional_within : (o : Option Value) → ((v : Value) → o ≡ Some v → width_of v ≤ n) → IsOutcomeWithin n (optional_of o)
  optional_within None h = tt
  optional_within (Some v) h = h v refl

  missing_within : (o : Option Value) → ((v : Value) → o ≡ Some v → width_of v ≤ n) → result_width (value_or_error o) ≤ n
  missing_within None h = omega arith
  missing_within (Some v) h = h v refl

  entry_within : (es : Entries) (f : List ℕ) → width_of (map es) ≤ n → (v : Value) → find f es ≡ Some v → width_of v ≤ n
  entry_within es f h v e = let g = parts_are_narrower.entry es f v e in omega arith

  item_within : (is : Items) (i : ℕ) → width_of (list is) ≤ n → (v : Value) → slice_get (list_of is) i ≡ Some v → width_of v ≤ n
  item_within is i h v e = let g = parts_are_narrower.item is i v e in omega arith

  sel_within : (v : Value) (f : List ℕ) → width_of v ≤ n → IsOutcomeWithin n (sel v f)
  sel_within null f h = tt
  sel_within (boolean b) f h = tt
  sel_within (int z) f h = tt
  sel_within (text s) f h = tt
  sel_within (list is) f h = tt
  sel_within (map es) f h = optional_within (find f es) (entry_within es f h)

  at_within : (v k : Value) → width_of v ≤ n → IsOutcomeWithin n (at v k)
  at_within null null h = tt
  at_within null (boolean b) h = tt
  at_within null (int z) h = tt
  at_within null (text s) h = tt
  at_within null (list is) h = tt
  at_within null (map es) h = tt
  at_within (boolean b) k h = tt
  at_within (int z) k h = tt
  at_within (text s) k h = tt
  at_within (list is) null h = tt
  at_within (list is) (boolean b) h = tt
  at_within (list is) (int (pos i)) h = optional_within (slice_get (list_of is) i) (item_within is i h)
  at_within (list is) (int (negsuc i)) h = tt
  at_within (list is) (text s) h = tt
  at_within (list is) (list js) h = tt
  at_within (list is) (map es) h = tt
  at_within (map es) null h = tt
  at_within (map es) (boolean b) h = tt
  at_within (map es) (int z) h = tt
  at_within (map es) (text k) h = optional_within (find k es) (entry_within es k h)
  at_within (map es) (list js) h = tt
  at_within (map es) (map fs) h = tt

  field_of_within : (v : Value) (f : List ℕ) → width_of v ≤ n → result_width (field_of (value v) f) ≤ n
  field_of_within null f h = omega arith
  field_of_within (boolean b) f h = omega arith
  field_of_within (int z) f h = omega arith
  field_of_within (text s) f h = omega arith
  field_of_within (list is) f h = omega arith
  field_of_within (map es) f h = missing_within (find f es) (entry_within es f h)

  pub index_of_within : (v k : Value) → width_of v ≤ n → result_width (index_of (value v) (value k)) ≤ n
  index_of_within null k h = omega arith
  index_of_within (boolean b) k h = omega arith
  index_of_within (int z) k h = omega arith
  index_of_within (text s) k h = omega arith
  index_of_within (list is) null h = omega arith
  index_of_within (list is) (boolean b) h = omega arith
  index_of_within (list is) (int (pos i)) h = missing_within (slice_get (list_of is) i) (item_within is i h)
  index_of_within (list is) (int (negsuc i)) h = omega arith
  index_of_within (list is) (text s) h = omega arith
  index_of_within (list is) (list js) h = omega arith
  index_of_within (list is) (map es) h = omega arith
  index_of_within (map es) null h = omega arith
  index_of_within (map es) (boolean b) h = omega arith
  index_of_within (map es) (int z) h = omega arith
  index_of_within (map es) (text k) h = missing_within (find k es) (entry_within es k h)
  index_of_within (map es) (list js) h = omega arith
  index_of_within (map es) (map fs) h = omega arith

  pub field_within : (o : Access) (x : Outcome) (f : List ℕ) → IsOutcomeWithin n x → IsOutcomeWithin n (field_in o x f)
  field_within Plain failed f h = tt
  field_within Plain (plain v) f h = outcome_within (field_of (value v) f) (field_of_within v f h)
  field_within Plain absent f h = tt
  field_within Plain (present v) f h = sel_within v f h
  field_within Optional failed f h = tt
  field_within Optional (plain v) f h = sel_within v f h
  field_within Optional absent f h = tt
  field_within Optional (present v) f h = sel_within v f h

  pub index_within : (o : Access) (x k : Outcome) → IsOutcomeWithin n x → IsOutcomeWithin n (index_in o x k)
  index_within Plain failed k h = tt
  index_within Plain (plain v) failed h = tt
  index_within Plain (plain v) (plain k) h = outcome_within (index_of (value v) (value k)) (index_of_within v k h)
  index_within Plain (plain v) absent h = tt
  index_within Plain (plain v) (present k) h = tt
  index_within Plain absent k h = tt
  index_within Plain (present v) failed h = tt
  index_within Plain (present v) (plain k) h = at_within v k h
  index_within Plain (present v) absent h = tt
  index_within Plain (present v) (present k) h = tt
  index_within Optional failed k h = tt
  index_within Optional (plain v) failed h = tt
  index_within Optional (plain v) (plain k) h = at_within v k h
  index_within Optional (plain v) absent h = tt
  index_within Optional (plain v) (present k) h = tt
  index_within Optional absent k h = tt
  index_within Optional (present v) failed h = tt
  index_within Optional (present v) (plain k) h = at_within v k h
  index_within Optional (present v) absent h = tt
  index_within Optional (present v) (present k) h = tt

-- ---- insertion

-- the entries, if there are any, are one more than m, and at most this wide
abbrev pub IsOneMore : ℕ → ℕ → Option Entries → Type 0
IsOneMore n m None = Unit {0}
IsOneMore n m (Some es) = (length (keys_of es) ≡ suc m) × (entries_width es ≤ n)

module _ (n : ℕ) where
  behind : (k : List ℕ) (v : Value) (m : ℕ) (o : Option Entries) → width_of v ≤ n → IsOneMore n m o → IsOneMore n (suc m) (option_map (entry k v) o)
  behind k v m None h g = tt
  behind k v m (Some es) h g = (ap_suc g.0, omega (arith, h, g.1))
    where
      ap_suc : length (keys_of es) ≡ suc m → suc (length (keys_of es)) ≡ suc (suc m)
      ap_suc e = omega (arith, e)

  by_order : (o : Ordering) (key : List ℕ) (x : Value) (k : List ℕ) (v : Value) (more : Entries) (rest : Option Entries)
      → width_of x ≤ n → entries_width (entry k v more) ≤ n → IsOneMore n (length (keys_of more)) rest
      → IsOneMore n (length (keys_of (entry k v more))) (inserted_by o key x k v more rest)
  by_order Less key x k v more rest h g i = (refl, omega (arith, h, g))
  by_order Equal key x k v more rest h g i = tt
  by_order Greater key x k v more rest h g i = behind k v (length (keys_of more)) rest (omega (arith, g)) i

  pub inserted_within : (key : List ℕ) (x : Value) (es : Entries) → width_of x ≤ n → entries_width es ≤ n
      → IsOneMore n (length (keys_of es)) (inserted key x es)
  inserted_within key x no_entries h g = (refl, omega (arith, h))
  inserted_within key x (entry k v more) h g =
      by_order (slice_cmp nat_cmp key k) key x k v more (inserted key x more) h g (inserted_within key x more h (omega (arith, g)))
