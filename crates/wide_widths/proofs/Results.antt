-- Results of operators, functions and macros within a width.
use Rattle.std.proofs.Common.{◌≡◌, ◌≤◌, ℕ, ℤ, suc, Bool, true, false, not, ◌+ℤ◌, ◌-ℤ◌, ◌*ℤ◌, nat_eq, count_by, List, length, Option, Some, None, option_map, refl, arith, if◌then◌else◌}
use Rattle.std.specs.List.{list_any, list_all}
use Rattle.cel_reader.specs.Tree as tree
use Rattle.cel_reader.specs.declared.operator.BinaryOperator.{BinaryOperator}
use Rattle.cel_reader.specs.declared.operator.BinaryOperator.TheVariants as binary
use Rattle.cel_reader.specs.declared.operator.UnaryOperator.{UnaryOperator, TheVariants.Not, TheVariants.Negate}
use Rattle.value_store.specs.Value.{Value, null, boolean, int, text, list, map, Items, Entries, keys_of}
use Rattle.value_store.specs.Value.{ValueOrError, error, value}
use Rattle.value_store.specs.Equality.{equal}
use Rattle.value_store.specs.Lookup.{member, inserted}
use Rattle.value_store.specs.Order.{less}
use Rattle.value_widths.specs.Width.{entries_width, result_width}
use Rattle.cel_macros.specs.Arithmetic.{fits, int_or_error, int_part, on_ints, quotient, remainder, negation_of, sum_of}
use Rattle.cel_macros.specs.Comparison.{truth_or_error, on_values}
use Rattle.cel_macros.specs.Functions.{size_of, text_test_of}
use Rattle.cel_macros.specs.Literals.{literal_of, text_part, with_entry, with_value}
use Rattle.cel_macros.specs.Logic.{Truth, Yes, No, Other, of_truth, truth, not_of, conjunction, disjunction}
use Rattle.cel_macros.specs.Macros.{all_of, exists_of, exists_one_of, is_yes, is_no, is_other}
use Rattle.cel_macros.specs.Meaning.{unary_of, binary_of}
use Rattle.cel_macros.specs.declared.text_test.TextTest.{TextTest}
use Rattle.wide_reader.specs.declared.wide.Access.{Access, TheVariants.Plain, TheVariants.Optional}
use Rattle.cel_reader.specs.Words.{is_one_of}
use Rattle.wide_meaning.specs.Functions.{text_of, bool_of, true_texts, false_texts, on_lists}
use Rattle.wide_meaning.specs.Operators.{same, tested, binary_in, item_in, entry_in, if_text, list_in, map_in}
use Rattle.wide_meaning.specs.Outcome.{Outcome, failed, plain, absent, present, outcome_of, plain_part}
use Rattle.wide_widths.specs.Law.{IsOutcomeWithin}
use Rattle.wide_widths.specs.Narrow.{is_sum}
use Rattle.wide_widths.proofs.Lists.{IsShortIf, IsValueWithin, list_within}
use Rattle.wide_widths.proofs.Values.{IsOneMore, inserted_within, outcome_within, plain_within}

-- ---- results that are no lists and no maps

-- the result has no list and no map
abbrev pub IsFlat : ValueOrError → Type 0
IsFlat x = result_width x ≡ 0

truth_flat : (t : Truth) → IsFlat (of_truth t)
truth_flat Yes = refl
truth_flat No = refl
truth_flat Other = refl

test_flat : (o : Option Bool) → IsFlat (truth_or_error o)
test_flat (Some b) = refl
test_flat None = refl

compared_flat : (f : Value → Value → Option Bool) (x y : ValueOrError) → IsFlat (on_values f x y)
compared_flat f (value a) (value b) = test_flat (f a b)
compared_flat f (value a) error = refl
compared_flat f error y = refl

if_flat : (b : Bool) (x y : ValueOrError) → IsFlat x → IsFlat y → IsFlat (if b then x else y)
if_flat true x y h g = h
if_flat false x y h g = g

int_flat : (z : ℤ) → IsFlat (int_or_error z)
int_flat z = if_flat (fits z) (value (int z)) error refl refl

on_ints_flat : (f : ℤ → ℤ → ValueOrError) (a b : Option ℤ) → ((x y : ℤ) → IsFlat (f x y)) → IsFlat (on_ints f a b)
on_ints_flat f (Some a) (Some b) h = h a b
on_ints_flat f (Some a) None h = refl
on_ints_flat f None b h = refl

quotient_flat : (a b : ℤ) → IsFlat (quotient a b)
quotient_flat a b = grind (arith, if_flat, int_flat)

remainder_flat : (a b : ℤ) → IsFlat (remainder a b)
remainder_flat a b = grind (arith, if_flat, int_flat)

not_flat : (x : ValueOrError) → IsFlat (not_of x)
not_flat x = grind arith

negation_flat : (x : ValueOrError) → IsFlat (negation_of x)
negation_flat x = grind (arith, int_flat)

pub unary_flat : (op : UnaryOperator) (x : ValueOrError) → IsFlat (unary_of op x)
unary_flat Not x = not_flat x
unary_flat Negate x = negation_flat x

pub binary_flat : (op : BinaryOperator) (x y : ValueOrError) → is_sum op ≡ false → IsFlat (binary_of op x y)
binary_flat binary.Or x y h = truth_flat (disjunction (truth x) (truth y))
binary_flat binary.And x y h = truth_flat (conjunction (truth x) (truth y))
binary_flat binary.Less x y h = compared_flat less x y
binary_flat binary.LessEqual x y h = compared_flat (λ a b. option_map not (less b a)) x y
binary_flat binary.GreaterEqual x y h = compared_flat (λ a b. option_map not (less a b)) x y
binary_flat binary.Greater x y h = compared_flat (λ a b. less b a) x y
binary_flat binary.Equal x y h = compared_flat (λ a b. Some (equal a b)) x y
binary_flat binary.NotEqual x y h = compared_flat (λ a b. Some (not (equal a b))) x y
binary_flat binary.In x y h = compared_flat member x y
binary_flat binary.Add x y h = grind arith
binary_flat binary.Subtract x y h = on_ints_flat (λ a b. int_or_error (a -ℤ b)) (int_part x) (int_part y) (λ a b. int_flat (a -ℤ b))
binary_flat binary.Multiply x y h = on_ints_flat (λ a b. int_or_error (a *ℤ b)) (int_part x) (int_part y) (λ a b. int_flat (a *ℤ b))
binary_flat binary.Divide x y h = on_ints_flat quotient (int_part x) (int_part y) quotient_flat
binary_flat binary.Remainder x y h = on_ints_flat remainder (int_part x) (int_part y) remainder_flat

pub size_flat : (x : ValueOrError) → IsFlat (size_of x)
size_flat x = grind arith

pub test_of_flat : (t : Option TextTest) (x y : ValueOrError) → IsFlat (text_test_of t x y)
test_of_flat t x y = grind arith

pub literal_flat : (l : tree.Literal) → IsFlat (literal_of l)
literal_flat (tree.int z) = refl
literal_flat (tree.text s) = refl
literal_flat (tree.truth b) = refl
literal_flat tree.null = refl

pub all_flat : (ts : List Truth) → IsFlat (all_of ts)
all_flat ts = if_flat (list_any is_no ts) (value (boolean false)) (if list_all is_yes ts then value (boolean true) else error) refl
    (if_flat (list_all is_yes ts) (value (boolean true)) error refl refl)

pub exists_flat : (ts : List Truth) → IsFlat (exists_of ts)
exists_flat ts = if_flat (list_any is_yes ts) (value (boolean true)) (if list_all is_no ts then value (boolean false) else error) refl
    (if_flat (list_all is_no ts) (value (boolean false)) error refl refl)

pub exists_one_flat : (ts : List Truth) → IsFlat (exists_one_of ts)
exists_one_flat ts = if_flat (list_any is_other ts) error (value (boolean (nat_eq (count_by is_yes ts) 1))) refl refl

-- ---- functions

pub text_flat : (x : ValueOrError) → IsFlat (text_of x)
text_flat x = grind arith

pub bool_flat : (x : ValueOrError) → IsFlat (bool_of x)
bool_flat error = refl
bool_flat (value null) = refl
bool_flat (value (boolean b)) = refl
bool_flat (value (int z)) = refl
bool_flat (value (text s)) =
    if_flat (is_one_of true_texts s) (value (boolean true)) (if is_one_of false_texts s then value (boolean false) else error) refl
    (if_flat (is_one_of false_texts s) (value (boolean false)) error refl refl)
bool_flat (value (list is)) = refl
bool_flat (value (map es)) = refl

pub sets_flat : (f : Items → Items → Bool) (x y : ValueOrError) → IsFlat (on_lists f x y)
sets_flat f x y = grind arith

pub same_flat : (o : Option Bool) (n : ℕ) → IsOutcomeWithin n (tested o)
same_flat (Some b) n = omega arith
same_flat None n = tt

-- ---- a sum

-- the result is no list
abbrev pub IsNoList : ValueOrError → Type 0
IsNoList (value (list is)) = ⊥
IsNoList _ = Unit {0}

if_no_list : (b : Bool) (x : ValueOrError) → IsNoList x → IsNoList (if b then x else error)
if_no_list true x h = h
if_no_list false x h = tt

int_no_list : (z : ℤ) → IsNoList (int_or_error z)
int_no_list z = if_no_list (fits z) (value (int z)) tt

pub literal_no_list : (l : tree.Literal) → IsNoList (literal_of l)
literal_no_list (tree.int z) = tt
literal_no_list (tree.text s) = tt
literal_no_list (tree.truth b) = tt
literal_no_list tree.null = tt

pub sum_flat_left : (x y : ValueOrError) → IsNoList x → IsFlat (sum_of x y) × IsNoList (sum_of x y)
sum_flat_left error y h = (refl, tt)
sum_flat_left (value null) y h = (refl, tt)
sum_flat_left (value (boolean b)) y h = (refl, tt)
sum_flat_left (value (int z)) error h = (refl, tt)
sum_flat_left (value (int z)) (value null) h = (refl, tt)
sum_flat_left (value (int z)) (value (boolean b)) h = (refl, tt)
sum_flat_left (value (int z)) (value (int w)) h = (int_flat (z +ℤ w), int_no_list (z +ℤ w))
sum_flat_left (value (int z)) (value (text s)) h = (refl, tt)
sum_flat_left (value (int z)) (value (list js)) h = (refl, tt)
sum_flat_left (value (int z)) (value (map fs)) h = (refl, tt)
sum_flat_left (value (text s)) error h = (refl, tt)
sum_flat_left (value (text s)) (value null) h = (refl, tt)
sum_flat_left (value (text s)) (value (boolean b)) h = (refl, tt)
sum_flat_left (value (text s)) (value (int w)) h = (refl, tt)
sum_flat_left (value (text s)) (value (text t)) h = (refl, tt)
sum_flat_left (value (text s)) (value (list js)) h = (refl, tt)
sum_flat_left (value (text s)) (value (map fs)) h = (refl, tt)
sum_flat_left (value (list is)) y h = absurd h
sum_flat_left (value (map es)) y h = (refl, tt)

pub sum_flat_right : (x y : ValueOrError) → IsNoList y → IsFlat (sum_of x y) × IsNoList (sum_of x y)
sum_flat_right error y h = (refl, tt)
sum_flat_right (value null) y h = (refl, tt)
sum_flat_right (value (boolean b)) y h = (refl, tt)
sum_flat_right (value (int z)) error h = (refl, tt)
sum_flat_right (value (int z)) (value null) h = (refl, tt)
sum_flat_right (value (int z)) (value (boolean b)) h = (refl, tt)
sum_flat_right (value (int z)) (value (int w)) h = (int_flat (z +ℤ w), int_no_list (z +ℤ w))
sum_flat_right (value (int z)) (value (text s)) h = (refl, tt)
sum_flat_right (value (int z)) (value (list js)) h = (refl, tt)
sum_flat_right (value (int z)) (value (map fs)) h = (refl, tt)
sum_flat_right (value (text s)) error h = (refl, tt)
sum_flat_right (value (text s)) (value null) h = (refl, tt)
sum_flat_right (value (text s)) (value (boolean b)) h = (refl, tt)
sum_flat_right (value (text s)) (value (int w)) h = (refl, tt)
sum_flat_right (value (text s)) (value (text t)) h = (refl, tt)
sum_flat_right (value (text s)) (value (list js)) h = (refl, tt)
sum_flat_right (value (text s)) (value (map fs)) h = (refl, tt)
sum_flat_right (value (list is)) error h = (refl, tt)
sum_flat_right (value (list is)) (value null) h = (refl, tt)
sum_flat_right (value (list is)) (value (boolean b)) h = (refl, tt)
sum_flat_right (value (list is)) (value (int w)) h = (refl, tt)
sum_flat_right (value (list is)) (value (text t)) h = (refl, tt)
sum_flat_right (value (list is)) (value (list js)) h = absurd h
sum_flat_right (value (list is)) (value (map fs)) h = (refl, tt)
sum_flat_right (value (map es)) y h = (refl, tt)

pub whole : (x : ValueOrError) → plain_part (outcome_of x) ≡ x
whole error = refl
whole (value v) = refl

module _ (n : ℕ) where
  pub flat_within : (x : ValueOrError) → IsFlat x → IsOutcomeWithin n (outcome_of x)
  flat_within x h = outcome_within n x (omega (arith, h))

  -- ---- literals of lists and maps

  abbrev pub AreItemsWithin : ℕ → Option (List Value) → Type 0
  AreItemsWithin m o = IsShortIf m (IsValueWithin n) o

  with_one : (x : ValueOrError) (m : ℕ) (o : Option (List Value)) → result_width x ≤ n → AreItemsWithin m o → AreItemsWithin (suc m) (with_value x o)
  with_one error m o h g = tt
  with_one (value v) m None h g = tt
  with_one (value v) m (Some vs) h g = (let l = g.0 in omega (arith, l), (h, g.1))

  longer : (m : ℕ) (o : Option (List Value)) → AreItemsWithin m o → AreItemsWithin (suc m) o
  longer m None h = tt
  longer m (Some vs) h = (let l = h.0 in omega (arith, l), h.1)

  pub item_within : (o : Access) (x : Outcome) (m : ℕ) (more : Option (List Value)) → IsOutcomeWithin n x → AreItemsWithin m more → AreItemsWithin (suc m) (item_in o x more)
  item_within Plain x m more h g = with_one (plain_part x) m more (plain_within n x h) g
  item_within Optional failed m more h g = tt
  item_within Optional (plain v) m more h g = tt
  item_within Optional absent m more h g = longer m more g
  item_within Optional (present v) m more h g = with_one (value v) m more h g

  pub items_list_within : (m : ℕ) (o : Option (List Value)) → m ≤ n → AreItemsWithin m o → IsOutcomeWithin n (list_in o)
  items_list_within m None l h = tt
  items_list_within m (Some vs) l h = list_within n (Some vs) (let g = h.0 in omega (arith, g, l), h.1)

  -- at most m entries, whose values are within the width
  abbrev pub AreEntriesWithin : ℕ → Option Entries → Type 0
  AreEntriesWithin m None = Unit {0}
  AreEntriesWithin m (Some es) = (length (keys_of es) ≤ m) × (entries_width es ≤ n)

  one_more_within : (k m : ℕ) (o : Option Entries) → k ≤ m → IsOneMore n k o → AreEntriesWithin (suc m) o
  one_more_within k m None l h = tt
  one_more_within k m (Some es) l h = (let g = h.0 in omega (arith, g, l), h.1)

  with_pair_within : (k : Option (List ℕ)) (x : ValueOrError) (m : ℕ) (o : Option Entries) → result_width x ≤ n → AreEntriesWithin m o → AreEntriesWithin (suc m) (with_entry k x o)
  with_pair_within None x m o h g = tt
  with_pair_within (Some k) error m o h g = tt
  with_pair_within (Some k) (value v) m None h g = tt
  with_pair_within (Some k) (value v) m (Some es) h g =
      one_more_within (length (keys_of es)) m (inserted k v es) g.0 (inserted_within n k v es h g.1)

  more_entries : (m : ℕ) (o : Option Entries) → AreEntriesWithin m o → AreEntriesWithin (suc m) o
  more_entries m None h = tt
  more_entries m (Some es) h = (let l = h.0 in omega (arith, l), h.1)

  if_text_within : (k : Option (List ℕ)) (m : ℕ) (o : Option Entries) → AreEntriesWithin m o → AreEntriesWithin (suc m) (if_text k o)
  if_text_within None m o h = tt
  if_text_within (Some k) m o h = more_entries m o h

  pub entry_in_within : (o : Access) (k x : Outcome) (m : ℕ) (more : Option Entries) → IsOutcomeWithin n x → AreEntriesWithin m more → AreEntriesWithin (suc m) (entry_in o k x more)
  entry_in_within Plain k x m more h g = with_pair_within (text_part (plain_part k)) (plain_part x) m more (plain_within n x h) g
  entry_in_within Optional k failed m more h g = tt
  entry_in_within Optional k (plain v) m more h g = tt
  entry_in_within Optional k absent m more h g = if_text_within (text_part (plain_part k)) m more g
  entry_in_within Optional k (present v) m more h g = with_pair_within (text_part (plain_part k)) (value v) m more h g

  pub entries_map_within : (m : ℕ) (o : Option Entries) → m ≤ n → AreEntriesWithin m o → IsOutcomeWithin n (map_in o)
  entries_map_within m None l h = tt
  entries_map_within m (Some es) l h = let g = h.0 in let k = h.1 in omega (arith, g, k, l)

  pub tested_within : (o : Option Bool) → IsOutcomeWithin n (tested o)
  tested_within o = same_flat o n

  -- a binary operator; the operands of a sum are such that it is no list
  pub binary_within : (c : Bool) (op : BinaryOperator) (x y : Outcome) → (is_sum op ≡ true → IsFlat (sum_of (plain_part x) (plain_part y)))
      → IsOutcomeWithin n (binary_in c op x y)
  binary_within true binary.Or x y h = flat_within _ (binary_flat binary.Or (plain_part x) (plain_part y) refl)
  binary_within false binary.Or x y h = flat_within _ (binary_flat binary.Or (plain_part x) (plain_part y) refl)
  binary_within true binary.And x y h = flat_within _ (binary_flat binary.And (plain_part x) (plain_part y) refl)
  binary_within false binary.And x y h = flat_within _ (binary_flat binary.And (plain_part x) (plain_part y) refl)
  binary_within true binary.Less x y h = flat_within _ (binary_flat binary.Less (plain_part x) (plain_part y) refl)
  binary_within false binary.Less x y h = flat_within _ (binary_flat binary.Less (plain_part x) (plain_part y) refl)
  binary_within true binary.LessEqual x y h = flat_within _ (binary_flat binary.LessEqual (plain_part x) (plain_part y) refl)
  binary_within false binary.LessEqual x y h = flat_within _ (binary_flat binary.LessEqual (plain_part x) (plain_part y) refl)
  binary_within true binary.GreaterEqual x y h = flat_within _ (binary_flat binary.GreaterEqual (plain_part x) (plain_part y) refl)
  binary_within false binary.GreaterEqual x y h = flat_within _ (binary_flat binary.GreaterEqual (plain_part x) (plain_part y) refl)
  binary_within true binary.Greater x y h = flat_within _ (binary_flat binary.Greater (plain_part x) (plain_part y) refl)
  binary_within false binary.Greater x y h = flat_within _ (binary_flat binary.Greater (plain_part x) (plain_part y) refl)
  binary_within true binary.Equal x y h = tested_within (same x y)
  binary_within false binary.Equal x y h = tested_within (same x y)
  binary_within true binary.NotEqual x y h = tested_within (option_map not (same x y))
  binary_within false binary.NotEqual x y h = tested_within (option_map not (same x y))
  binary_within true binary.In x y h = omega arith
  binary_within false binary.In x y h = flat_within _ (binary_flat binary.In (plain_part x) (plain_part y) refl)
  binary_within true binary.Add x y h = flat_within _ (h refl)
  binary_within false binary.Add x y h = flat_within _ (h refl)
  binary_within true binary.Subtract x y h = flat_within _ (binary_flat binary.Subtract (plain_part x) (plain_part y) refl)
  binary_within false binary.Subtract x y h = flat_within _ (binary_flat binary.Subtract (plain_part x) (plain_part y) refl)
  binary_within true binary.Multiply x y h = flat_within _ (binary_flat binary.Multiply (plain_part x) (plain_part y) refl)
  binary_within false binary.Multiply x y h = flat_within _ (binary_flat binary.Multiply (plain_part x) (plain_part y) refl)
  binary_within true binary.Divide x y h = flat_within _ (binary_flat binary.Divide (plain_part x) (plain_part y) refl)
  binary_within false binary.Divide x y h = flat_within _ (binary_flat binary.Divide (plain_part x) (plain_part y) refl)
  binary_within true binary.Remainder x y h = flat_within _ (binary_flat binary.Remainder (plain_part x) (plain_part y) refl)
  binary_within false binary.Remainder x y h = flat_within _ (binary_flat binary.Remainder (plain_part x) (plain_part y) refl)
