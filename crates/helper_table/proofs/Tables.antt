-- Calls return words, and leave tables.
use Rattle.helper_table.proofs.Prelude.{◌≡◌, ◌+◌, ◌<◌, ◌≤◌, ◌^◌, ℕ, zero, suc, List, [], ◌∷◌, ◌++◌, length, Option, Some, lit<, arith, All-append, All-cons, All-head, All-nil, All-tail, get_or_from_slice_get, slice_get_within, w64, cast_signed, All, FitsSigned, slice_index, nat_le, option_and_then, entries_at, joined, part_at, pushed, put_in, text_at, Contents, charge_limit, place, placed, Seen, sees_list, sees_map, outcome_view, Value, text, list, Items, ValueOrError, value, entered, grown, is_key, join_row, list_new_row, map_new_row, push_row, put_row, sequence, bytes_at, on_lent, on_range, on_value, on_values, r1, r2, r3, row_numbered, row_of, contains_row, ends_row, equal_row, less_row, member_row, starts_row, int_new_row, int_of_row, kind_row, not_row, text_const_row, text_of_int_row, Follows, count_row, field_row, has_row, index_row, item_or_key, item_row, part_by, size_row, value_under, of_number, place_part, text_part, RowOutcome, Plain, Named, Refused, Leaves, answer_among, charged, found, AreItemsBounded, IsBounded, IsResultBounded, IsTable, TablesAreKept, Helper}
use Rattle.helper_table.proofs.Bounded.{joined_items, key_text_bounded, looser, looser_items, part_bounded, pushed_bounded, put_in_bounded, under_bounded}
use Rattle.helper_table.proofs.Entering.{unless}
use Rattle.helper_table.proofs.Placing.{Left, left, outcome_follows}
use Rattle.helper_table.proofs.Maps.{few_code_points}
use Rattle.helper_table.specs.declared.helper.Helper.TheVariants as helper

-- an outcome fits the bound n: a word, or a value bounded by n and its cost
abbrev IsFit : ℕ → RowOutcome → Type 0
IsFit n (Plain word added) = word < 2 ^ 64
IsFit n (Named v added) = IsBounded (n + (1 + added)) v
IsFit n (Refused f) = Unit {0}

found_fits : (n : ℕ) (o : Option Value) → ((v : Value) → o ≡ Some v → IsBounded n v) → IsFit n (found o)
found_fits n o b = grind (arith, lit<, looser)

-- ---- operands

argument : (args : List ℕ) (i : ℕ) → All (λ w. w < 2 ^ 64) args → slice_index args i < 2 ^ 64
argument [] i all = lit< tt
argument (w ∷ ws) zero all = All-head (λ w. w < 2 ^ 64) w ws all
argument (w ∷ ws) (suc i) all = argument ws i (All-tail (λ w. w < 2 ^ 64) w ws all)

module _ (n : ℕ) where
  lent_fits : (o : Option (List ℕ)) (row : List ℕ → RowOutcome) → ((bytes : List ℕ) → IsFit n (row bytes)) → IsFit n (on_lent o row)
  lent_fits o row is = grind arith

module _ (n : ℕ) (vs : List ValueOrError) (all : All (IsResultBounded n) vs) where
  value_fits : (h : ℕ) (row : ValueOrError → RowOutcome) → ((x : ValueOrError) → IsResultBounded n x → IsFit n (row x)) → IsFit n (on_value vs h row)
  value_fits h row is = grind (arith, get_or_from_slice_get, slice_get_within)

  values_fit : (a b : ℕ) (row : ValueOrError → ValueOrError → RowOutcome)
      → ((x y : ValueOrError) → IsResultBounded n x → IsResultBounded n y → IsFit n (row x y)) → IsFit n (on_values vs a b row)
  values_fit a b row is = grind (arith, value_fits)

-- ---- words

int_of_fits : (n : ℕ) (x : ValueOrError) → IsResultBounded n x → IsFit n (int_of_row x)
unfolding int_of_row
int_of_fits n x b = grind arith

signed_fits : (w : ℕ) → w < 2 ^ 64 → FitsSigned w64 (cast_signed w64 w)
signed_fits w h = grind arith

-- ---- parts

then_bounded : {A : Type 0} (n : ℕ) (f : A → Option Value) (o : Option A) (v : Value) → ((a : A) → f a ≡ Some v → IsBounded n v) → option_and_then f o ≡ Some v → IsBounded n v
then_bounded n f o v is e = grind arith

by_bounded : (n : ℕ) (s k : Seen) (x : ValueOrError) (v : Value) → IsResultBounded n x → part_by s k (Some x) ≡ Some v → IsBounded n v
by_bounded n (sees_list m) k x v b e = then_bounded n (part_at (Some x)) (place_part k) v (λ i h. part_bounded n x i v b h) e
by_bounded n (sees_map m) k x v b e = then_bounded n (value_under (Some x)) (text_part k) v (λ key h. under_bounded n x key v b h) e
by_bounded n _ k x v b e = absurd (cc)

at_bounded : (n : ℕ) (s : Seen) (i : ℕ) (x : ValueOrError) (v : Value) → IsResultBounded n x → item_or_key s i (Some x) ≡ Some v → IsBounded n v
at_bounded n (sees_list m) i x v b e = grind (arith, part_bounded)
at_bounded n s i x v b e = grind (arith, key_text_bounded)

module _ (n : ℕ) (small : n ≤ charge_limit) where
  size_fits : (x : ValueOrError) → IsResultBounded n x → IsFit n (size_row x)
  unfolding size_row
  size_fits (value (text s)) b = grind (arith, few_code_points)
  size_fits x b = grind arith

  count_fits : (x : ValueOrError) → IsResultBounded n x → IsFit n (count_row x)
  unfolding count_row
  count_fits x b = grind arith

-- ---- texts, lists and maps that are built

sequence_fits : (n : ℕ) (o : Option Value) → ((is : Items) → o ≡ Some (list is) → AreItemsBounded n is) → IsFit n (sequence o)
sequence_fits n o b = grind (arith, looser_items, lit<)

grown_fits : (n : ℕ) (o : Option Value) → ((v : Value) → o ≡ Some v → IsBounded (n + 2) v) → IsFit n (grown o)
grown_fits n o b = grind arith

put_fits : (n : ℕ) (m k x : ValueOrError) → IsResultBounded n m → IsResultBounded n k → IsResultBounded n x → IsFit n (put_row m k x)
unfolding put_row
put_fits n m k x b c d =
    grown_fits n (entered (Some m) (Some k) (Some x))
    (λ v e. put_in_bounded n m k x v b c d (unless (is_key (entries_at (Some m)) (text_at (Some k))) (put_in (Some m) (Some k) (Some x)) v e))

-- ---- calls

module _ (n : ℕ) (small : n ≤ charge_limit) (vs : List ValueOrError) (all : All (IsResultBounded n) vs) (args : List ℕ) (words : All (λ w. w < 2 ^ 64) args) (constants : List ℕ) where
  row_fits : (h : Helper) → IsFit n (row_of h args vs constants)
  unfolding row_of kind_row int_new_row text_const_row text_of_int_row not_row field_row has_row index_row item_row equal_row less_row member_row starts_row ends_row contains_row join_row list_new_row map_new_row push_row
  row_fits helper.IntOf = value_fits n vs all (r1 args) int_of_row (int_of_fits n)
  row_fits helper.IntNew = signed_fits (r1 args) (argument args 0 words)
  row_fits helper.Field =
      value_fits n vs all (r1 args) (λ m. on_range constants (r2 args) (r3 args) (field_row m))
      (λ m b. lent_fits n (bytes_at constants (r2 args) (r3 args)) (field_row m)
      (λ key. found_fits n (value_under (Some m) key) (λ v e. under_bounded n m key v b e)))
  row_fits helper.Index =
      values_fit n vs all (r1 args) (r2 args) index_row
      (λ x k b c. found_fits n (part_by (outcome_view x) (outcome_view k) (Some x)) (λ v e. by_bounded n (outcome_view x) (outcome_view k) x v b e))
  row_fits helper.Size = value_fits n vs all (r1 args) size_row (size_fits n small)
  row_fits helper.Join =
      values_fit n vs all (r1 args) (r2 args) join_row (λ x y b c. sequence_fits n (joined (Some x) (Some y)) (λ is e. joined_items n x y is b c e))
  row_fits helper.Push =
      values_fit n vs all (r1 args) (r2 args) push_row (λ x y b c. grown_fits n (pushed (Some x) (Some y)) (λ v e. pushed_bounded n x y v b c e))
  row_fits helper.Put =
      value_fits n vs all (r1 args) (λ m. on_values vs (r2 args) (r3 args) (put_row m))
      (λ m b. values_fit n vs all (r2 args) (r3 args) (put_row m) (λ k x c d. put_fits n m k x b c d))
  row_fits helper.Item =
      value_fits n vs all (r1 args) (λ x. item_row x (r2 args))
      (λ x b. found_fits n (item_or_key (outcome_view x) (r2 args) (Some x)) (λ v e. at_bounded n (outcome_view x) (r2 args) x v b e))
  row_fits helper.Count = value_fits n vs all (r1 args) count_row (count_fits n small)
  row_fits h = grind (arith, lit<)

  numbered_fits : (o : Option Helper) → IsFit n (row_numbered o args vs constants)
  numbered_fits o = grind (arith, row_fits)

-- ---- the contents after a call

all_looser : (n m : ℕ) (vs : List ValueOrError) → n ≤ m → All (IsResultBounded n) vs → All (IsResultBounded m) vs
all_looser n m vs h all = grind (arith, looser)

one_more : (m : ℕ) (vs : List ValueOrError) (v : Value) → All (IsResultBounded m) vs → IsBounded m v → All (IsResultBounded m) (vs ++ value v ∷ [])
one_more m vs v all b = All-append (IsResultBounded m) vs (value v ∷ []) all (All-cons (IsResultBounded m) (value v) [] b (All-nil (IsResultBounded m)))

placed_bounded : (m : ℕ) (vs : List ValueOrError) (v : Value) → All (IsResultBounded m) vs → IsBounded m v → All (IsResultBounded m) (placed vs v)
placed_bounded m vs v all b = grind (arith, one_more)

place_small : (vs : List ValueOrError) (v : Value) → length vs < 2 ^ 64 → place vs v < 2 ^ 64
place_small vs v h = grind arith

module _ (old new : Contents) (word : ℕ) (table : IsTable old) where
  keeps : (us : List ValueOrError) (w added : ℕ) → w < 2 ^ 64 → All (IsResultBounded (old.charge + (1 + added))) us → Follows old new
      → Left (nat_le (old.charge + (1 + added)) charge_limit) w word (record { values = us; charge = old.charge + (1 + added) }) new → (word < 2 ^ 64) × IsTable new
  keeps us w added small all follows is = grind arith

  outcome_keeps : (o : RowOutcome) → IsFit old.charge o → charged (answer_among old.values o) old.charge ≡ Leaves word new → (word < 2 ^ 64) × IsTable new
  outcome_keeps (Plain w added) fit e =
      keeps old.values w added fit (all_looser old.charge (old.charge + (1 + added)) old.values (omega arith) table.bounded) (outcome_follows (Plain w added) old new word e) (left _ _ _ _ _ e)
  outcome_keeps (Named v added) fit e =
      let short : length old.values < 2 ^ 64 = omega (arith, table.few, table.store.charged) in
      keeps (placed old.values v) (place old.values v) added (place_small old.values v short) (placed_bounded (old.charge + (1 + added)) old.values v (all_looser old.charge (old.charge + (1 + added)) old.values (omega arith) table.bounded) fit) (outcome_follows (Named v added) old new word e) (left _ _ _ _ _ e)
  outcome_keeps (Refused f) fit e = absurd (cc)

pub tables_are_kept : TablesAreKept
tables_are_kept id args old new constants word words table e =
    outcome_keeps old new word table _ (numbered_fits old.charge table.store.charged old.values table.bounded args words constants (of_number id)) e
