-- The effect of a call, given the row of its helper, and the rows in terms of CEL's operations.
use Rattle.expression_code.proofs.Prelude.{arith, ◌≡◌, ℕ, ◌+◌, ◌^◌, ◌<◌, ◌≤◌, List, [], ◌∷◌, Option, Some, None, Bool, true, false, refl, sym, ap, ◌∙◌, subst, suc, ◌++◌, length, ℤ, All, nat_le, if◌then◌else◌, option_map, slice_get, le-leb, outcome_of, ExtendsValues, Names, HelperAnswer, Leaves, RowOutcome, Plain, Named, answer_among, charged, truth_word, named, Refused, IsTable, placed_extends, placed_is_named, same, tables_are_kept, F8, charge_limit, Value, ValueOrError, error, value, boolean, text, list, Items, items_join, truth_or_error, value_or_error, CpuState, HelperPlaces, Tells, arguments_in, length-map, depth_limit, grown, sequence, on_texts, item_or_key, count_word, count_part, text_part, joined, outcome_view, depth_of, result_depth, TextTest, text_test_of, range_of, join_of, joined_length}
use Rattle.std.specs.Prelude.{map as each}
use Rattle.helper_table.specs.Outcome.{Gives, Halts, truth}
use Rattle.expression_code.proofs.Values.{names_error, names_no, names_yes}
use Rattle.cel_macros.specs.Functions.{holds_of}
use Rattle.helper_table.specs.Comparisons as row
use Rattle.value_store.specs.Calls as store
use Rattle.cel_macros.specs.Functions as meant
use Rattle.cel_macros.specs.Literals as literal

-- an outcome refers to the value or the error
pub data IsNamed (x : ValueOrError) (added : ℕ) (o : RowOutcome) : Type 0 where
  Placed : (v : Value) → o ≡ Named v added → x ≡ value v → IsNamed x added o
  Missing : o ≡ Plain 0 added → x ≡ error → IsNamed x added o
  Decided : (b : Bool) → o ≡ Plain (truth_word (Some b)) added → x ≡ value (boolean b) → IsNamed x added o

pub named_is : (v : Option Value) (added : ℕ) → IsNamed (value_or_error v) added (named v added)
named_is (Some v) added = Placed v refl refl
named_is None added = Missing refl refl

pub truth_is : (b : Option Bool) → IsNamed (truth_or_error b) 0 (truth b)
truth_is (Some b) = Decided b refl refl
truth_is None = Missing refl refl

-- three words, and zeros for the two registers that no row reads
pub three : (a b c : ℕ) → a < 2 ^ 64 → b < 2 ^ 64 → c < 2 ^ 64 → All (λ w. w < 2 ^ 64) (a ∷ b ∷ c ∷ 0 ∷ 0 ∷ [])
three a b c ha hb hc = grind arith

-- a call within the limit leaves what its row states, and the values are a table again; the registers that the row
-- does not read may hold anything
module _ (helper : ℤ) (b : CpuState) (args : List ℕ) (words : All (λ w. w < 2 ^ 64) args) (table : IsTable b.values) where
  abbrev said : RowOutcome
  said = outcome_of helper args b.values.values b.memory.constants

  within : (w added : ℕ) (vs : List ValueOrError) → b.values.charge + (1 + added) ≤ charge_limit → (if nat_le (b.values.charge + (1 + added)) charge_limit then Leaves w (record { values = vs; charge = b.values.charge + (1 + added) }) else Halts F8) ≡ Leaves w (record { values = vs; charge = b.values.charge + (1 + added) })
  within w added vs paid = rw (le-leb (b.values.charge + (1 + added)) charge_limit paid) refl

  -- a word and values that the row returns belong to a table
  after : (w added : ℕ) (vs : List ValueOrError) → answer_among b.values.values said ≡ Gives w vs (1 + added)
      → b.values.charge + (1 + added) ≤ charge_limit → IsTable (record { values = vs; charge = b.values.charge + (1 + added) })
  after w added vs e paid =
      (tables_are_kept helper args b.values (record { values = vs; charge = b.values.charge + (1 + added) }) b.memory.constants w words table (ap (λ (a : HelperAnswer). charged a b.values.charge) e ∙ within w added vs paid)).1

  pub tells : (w added : ℕ) → outcome_of helper (arguments_in b) b.values.values b.memory.constants ≡ said → said ≡ Plain w added → Tells helper b w (1 + added)
  tells w added clean e = record { answers = ap (answer_among b.values.values) (clean ∙ e); table = after w added _ (ap (answer_among b.values.values) e) }

  names_truth : (t : Bool) → Names b.values.values (truth_word (Some t)) (value (boolean t))
  names_truth true = names_yes b.values table.store
  names_truth false = names_no b.values table.store

  leaves : (x : ValueOrError) (added w : ℕ) (vs : List ValueOrError) → outcome_of helper (arguments_in b) b.values.values b.memory.constants ≡ said
      → answer_among b.values.values said ≡ Gives w vs (1 + added)
      → Names vs w x → ExtendsValues b.values.values vs → HelperPlaces helper b x (1 + added)
  leaves x added w vs clean e names extends = record { word = w; list = vs; answers = ap (answer_among b.values.values) clean ∙ e; names = names; extends = extends; table = after w added vs e }

  places_by : (x : ValueOrError) (added : ℕ) → outcome_of helper (arguments_in b) b.values.values b.memory.constants ≡ said → IsNamed x added said → HelperPlaces helper b x (1 + added)
  places_by x added clean (Placed v e is) =
      leaves x added _ _ clean (ap (answer_among b.values.values) e) (rw is (placed_is_named b.values v table.store)) (placed_extends b.values.values v)
  places_by x added clean (Missing e is) = leaves x added _ _ clean (ap (answer_among b.values.values) e) (rw is (names_error b.values table.store)) (same b.values.values)
  places_by x added clean (Decided t e is) = leaves x added _ _ clean (ap (answer_among b.values.values) e) (rw is (names_truth t)) (same b.values.values)

  -- the row states a known outcome
  pub places : (o : RowOutcome) (x : ValueOrError) (added : ℕ) → outcome_of helper (arguments_in b) b.values.values b.memory.constants ≡ said → said ≡ o
      → IsNamed x added o → HelperPlaces helper b x (1 + added)
  places o x added clean e is = places_by x added clean (subst (IsNamed x added) (sym e) is)

-- ---- each row states what the operation means

-- the row and the meaning see the same text, if there is one
text_is : (x : ValueOrError) → literal.text_part x ≡ text_part (outcome_view x)
text_is x = grind arith

pub test_is : (t : TextTest) (x y : ValueOrError) → text_test_of (Some t) x y ≡ truth_or_error (on_texts (holds_of t) (text_part (outcome_view x)) (text_part (outcome_view y)))
test_is t x y = grind arith

pub contains_texts : (a b : Option (List ℕ)) → on_texts row.contains a b ≡ on_texts meant.contains a b
contains_texts a b = grind arith

-- a concatenation is a text or a list
abbrev JoinedIs : Option Value → Type 0
JoinedIs o = IsNamed (value_or_error o) (joined_length o) (sequence o)

text_joined : (s : List ℕ) (w : Value) → JoinedIs (store.join_of (text s) w)
text_joined s (text t) = Placed (text (s ++ t)) refl refl
text_joined s _ = Missing refl refl

list_joined : (is : Items) (w : Value) → JoinedIs (store.join_of (list is) w)
list_joined is (list js) = Placed (list (items_join is js)) refl refl
list_joined is _ = Missing refl refl

joined_is : (v w : Value) → JoinedIs (store.join_of v w)
joined_is (text s) w = text_joined s w
joined_is (list is) w = list_joined is w
joined_is _ w = Missing refl refl

pub sequence_is : (x y : ValueOrError) → IsNamed (join_of x y) (joined_length (joined (Some x) (Some y))) (sequence (joined (Some x) (Some y)))
sequence_is (value v) (value w) = joined_is v w
sequence_is _ _ = Missing refl refl

-- a list or a map that is not too deep
pub grown_is : (v : Option Value) → result_depth (value_or_error v) ≤ depth_limit → IsNamed (value_or_error v) 1 (grown v)
grown_is (Some v) within = Placed v (rw (le-leb (depth_of v) depth_limit within) refl) refl
grown_is None within = Missing refl refl

pub grown_deep : (v : Option Value) → depth_limit < result_depth (value_or_error v) → grown v ≡ Refused F8
grown_deep v deep = grind arith

-- the items of a range, as the calls see them
each_item : (keys : List (List ℕ)) (i : ℕ) → slice_get (each text keys) i ≡ option_map text (slice_get keys i)
each_item (k ∷ ks) (suc i) = each_item ks i
each_item _ _ = refl

pub item_is : (x : ValueOrError) (items : List Value) (i : ℕ) → range_of x ≡ Some items → item_or_key (outcome_view x) i (Some x) ≡ slice_get items i
item_is x items i range = grind (arith, each_item)

pub count_is : (x : ValueOrError) (items : List Value) → range_of x ≡ Some items → count_word (count_part (outcome_view x)) ≡ length items
count_is x items range = grind (arith, length-map)
