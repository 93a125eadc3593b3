-- The result of each helper, stated with the functions of the meaning.
use Rattle.expression_code.proofs.Prelude.{◌≡◌, ℕ, ◌+◌, ◌<◌, ◌≤◌, List, [], ◌∷◌, length, Option, Some, None, Bool, refl, sym, ap, ◌∙◌, subst, lit<, arith, ℤ, pos, if◌then◌else◌, signed_decimal, w64, cast_signed, depth_limit, join_row, list_new_row, map_new_row, push_row, put_row, on_lent, on_operand, on_range, on_value, on_values, outcome_of, row_of, equal_row, less_row, member_row, starts_row, ends_row, contains_row, kind_row, int_of_row, int_new_row, text_const_row, text_of_int_row, not_row, Names, field_row, has_row, index_row, size_row, item_row, count_row, of_number, text_part, RowOutcome, Plain, Named, answer_among, found, named, R1, R2, R3, outcome_view, result_depth, Value, ValueOrError, error, value, int, text, list, map, no_items, no_entries, int_part, truth_or_error, Roots, value_or_error, StartsWith, EndsWith, Contains, CpuState, HelperPlaces, Tells, HasValues, HelpersAnswer, Holding, Lends}
use Rattle.helper_table.specs.Building.{entered}
use Rattle.helper_table.specs.Outcome.{truth}
use Rattle.value_store.specs.Calls as store
use Rattle.expression_code.proofs.Meanings.{IsNamed, Missing, Placed, contains_texts, count_is, grown_deep, grown_is, item_is, named_is, places, sequence_is, tells, test_is, three, truth_is}
use Rattle.expression_code.proofs.Values.{small_reference}

-- ---- the calls

-- the row for the values of its references
one_operand : (vs : List ValueOrError) (h : ℕ) (x : ValueOrError) (row : ValueOrError → RowOutcome) → Names vs h x → on_value vs h row ≡ row x
one_operand vs h x row named = ap (λ (o : Option ValueOrError). on_operand o row) named

two_operands : (vs : List ValueOrError) (h k : ℕ) (x y : ValueOrError) (row : ValueOrError → ValueOrError → RowOutcome) → Names vs h x → Names vs k y → on_values vs h k row ≡ row x y
two_operands vs h k x y row first second = one_operand vs h x (λ u. on_value vs k (row u)) first ∙ one_operand vs k y (row x) second

module _ {roots : Roots} {b : CpuState} (values : HasValues roots b.values) where
  -- a helper of one operand, of two operands, and of one operand and a key
  unary : {helper : ℤ} (x y : ValueOrError) (added : ℕ) (row : ValueOrError → RowOutcome) → ((a c d e f : ℕ) → outcome_of helper (a ∷ c ∷ d ∷ e ∷ f ∷ []) b.values.values b.memory.constants ≡ on_value b.values.values a row) → IsNamed y added (row x) → Holding b R1 x → HelperPlaces helper b y (1 + added)
  unary {helper} x y added row says is named =
      let h = b.registers R1 in
      places helper b (h ∷ 0 ∷ 0 ∷ 0 ∷ 0 ∷ []) (three h 0 0 (small_reference b.values h x values.table named) (lit< tt) (lit< tt)) values.table (row x) y added (says _ _ _ _ _ ∙ sym (says h 0 0 0 0)) (says h 0 0 0 0 ∙ one_operand b.values.values h x row named) is

  unary_word : {helper : ℤ} (x : ValueOrError) (w : ℕ) (row : ValueOrError → RowOutcome) → ((a c d e f : ℕ) → outcome_of helper (a ∷ c ∷ d ∷ e ∷ f ∷ []) b.values.values b.memory.constants ≡ on_value b.values.values a row) → row x ≡ Plain w 0 → Holding b R1 x → Tells helper b w 1
  unary_word {helper} x w row says is named =
      let h = b.registers R1 in
      tells helper b (h ∷ 0 ∷ 0 ∷ 0 ∷ 0 ∷ []) (three h 0 0 (small_reference b.values h x values.table named) (lit< tt) (lit< tt)) values.table w 0 (says _ _ _ _ _ ∙ sym (says h 0 0 0 0)) (says h 0 0 0 0 ∙ one_operand b.values.values h x row named ∙ is)

  binary : {helper : ℤ} (x y z : ValueOrError) (added : ℕ) (row : ValueOrError → ValueOrError → RowOutcome) → ((a c d e f : ℕ) → outcome_of helper (a ∷ c ∷ d ∷ e ∷ f ∷ []) b.values.values b.memory.constants ≡ on_values b.values.values a c row) → IsNamed z added (row x y) → Holding b R1 x → Holding b R2 y → HelperPlaces helper b z (1 + added)
  binary {helper} x y z added row says is first second =
      let h = b.registers R1 in
      let k = b.registers R2 in
      places helper b (h ∷ k ∷ 0 ∷ 0 ∷ 0 ∷ []) (three h k 0 (small_reference b.values h x values.table first) (small_reference b.values k y values.table second) (lit< tt)) values.table (row x y) z added (says _ _ _ _ _ ∙ sym (says h k 0 0 0)) (says h k 0 0 0 ∙ two_operands b.values.values h k x y row first second) is

  keyed : {helper : ℤ} (x y : ValueOrError) (key : List ℕ) (row : ValueOrError → List ℕ → RowOutcome) → ((a c d e f : ℕ) → outcome_of helper (a ∷ c ∷ d ∷ e ∷ f ∷ []) b.values.values b.memory.constants ≡ on_value b.values.values a (λ m. on_range b.memory.constants c d (row m))) → IsNamed y 0 (row x key) → Holding b R1 x → Lends b R2 R3 key → HelperPlaces helper b y 1
  keyed {helper} x y key row says is named lends =
      let h = b.registers R1 in
      let from = b.registers R2 in
      let count = b.registers R3 in
      places helper b (h ∷ from ∷ count ∷ 0 ∷ 0 ∷ []) (three h from count (small_reference b.values h x values.table named) lends.address lends.count) values.table (row x key) y 0 (says _ _ _ _ _ ∙ sym (says h from count 0 0)) (says h from count 0 0 ∙ one_operand b.values.values h x (λ m. on_range b.memory.constants from count (row m)) named ∙ ap (λ (o : Option (List ℕ)). on_lent o (row x)) lends.bytes_are) is

-- a row whose result is another form of the meaning
by_value : (v : Option Value) {y : ValueOrError} → y ≡ value_or_error v → IsNamed y 0 (named v 0)
by_value v e = subst (λ (y : ValueOrError). IsNamed y 0 (named v 0)) (sym e) (named_is v 0)

by_truth : (t : Option Bool) {y : ValueOrError} → y ≡ truth_or_error t → IsNamed y 0 (truth t)
by_truth t e = subst (λ (y : ValueOrError). IsNamed y 0 (truth t)) (sym e) (truth_is t)

-- three references
put_said : (vs : List ValueOrError) (h i j : ℕ) (m k x : ValueOrError) → Names vs h m → Names vs i k → Names vs j x → on_value vs h (λ u. on_values vs i j (put_row u)) ≡ put_row m k x
put_said vs h i j m k x first second third = one_operand vs h m (λ u. on_values vs i j (put_row u)) first ∙ two_operands vs i j k x (put_row m) second third

-- a value that is not an int has no decimal text
no_decimal : (x : ValueOrError) → int_part x ≡ None → IsNamed error 0 (text_of_int_row x)
unfolding text_of_int_row
no_decimal (value (int z)) e = absurd (cc)
no_decimal _ e = Missing refl refl

-- all helpers
pub helpers : HelpersAnswer
unfolding of_number row_of kind_row int_of_row int_new_row text_const_row field_row has_row index_row size_row equal_row less_row join_row starts_row ends_row contains_row member_row list_new_row push_row map_new_row put_row item_row count_row text_of_int_row not_row
helpers = record {
  kind = λ roots b x values named. unary_word values x _ kind_row (λ a c d e f. refl) refl named;
  int_of = λ roots b z values named. unary_word values (value (int z)) _ int_of_row (λ a c d e f. refl) refl named;
  int_new = λ roots b values small.
      let w = b.registers R1 in
      places (pos 3) b (w ∷ 0 ∷ 0 ∷ 0 ∷ 0 ∷ []) (three w 0 0 small (lit< tt) (lit< tt)) values.table (int_new_row w) _ 0 refl refl (Placed (int (cast_signed w64 w)) refl refl);
  text_const = λ roots b bytes values lends utf8.
      let from = b.registers R1 in
      let count = b.registers R2 in
      places (pos 4) b (from ∷ count ∷ 0 ∷ 0 ∷ 0 ∷ []) (three from count 0 lends.address lends.count (lit< tt)) values.table (Named (text bytes) (length bytes)) _ (length bytes) refl (ap (λ (o : Option (List ℕ)). on_lent o text_const_row) lends.bytes_are ∙ ap (λ (t : Bool). if t then Named (text bytes) (length bytes) else Plain 0 0) utf8) (Placed (text bytes) refl refl);
  field = λ roots b x key values named lends. keyed values x _ key field_row (λ a c d e f. refl) (by_value _ (grind arith)) named lends;
  has = λ roots b x key values named lends. keyed values x _ key has_row (λ a c d e f. refl) (by_truth _ (grind arith)) named lends;
  index = λ roots b x y values first second. binary values x y _ 0 index_row (λ a c d e f. refl) (by_value _ (grind arith)) first second;
  size = λ roots b x values named. unary values x _ 0 size_row (λ a c d e f. refl) (by_value _ (grind arith)) named;
  equal = λ roots b x y values first second. binary values x y _ 0 equal_row (λ a c d e f. refl) (by_truth _ (grind arith)) first second;
  less = λ roots b x y values first second. binary values x y _ 0 less_row (λ a c d e f. refl) (by_truth _ (grind arith)) first second;
  join = λ roots b x y values first second. binary values x y _ _ join_row (λ a c d e f. refl) (sequence_is x y) first second;
  starts = λ roots b x y values first second. binary values x y _ 0 starts_row (λ a c d e f. refl) (by_truth _ (test_is StartsWith x y)) first second;
  ends = λ roots b x y values first second. binary values x y _ 0 ends_row (λ a c d e f. refl) (by_truth _ (test_is EndsWith x y)) first second;
  contains = λ roots b x y values first second.
      let same = contains_texts (text_part (outcome_view x)) (text_part (outcome_view y)) in
      binary values x y _ 0 contains_row (λ a c d e f. refl) (by_truth _ (test_is Contains x y ∙ sym (ap truth_or_error same))) first second;
  member = λ roots b x y values first second. binary values x y _ 0 member_row (λ a c d e f. refl) (by_truth _ (grind arith)) first second;
  list_new = λ roots b values. places (pos 16) b (0 ∷ 0 ∷ 0 ∷ 0 ∷ 0 ∷ []) (three 0 0 0 (lit< tt) (lit< tt) (lit< tt)) values.table list_new_row _ 0 refl refl (Placed (list no_items) refl refl);
  push = λ roots b l x values first second within.
      let grown = grown_is (store.pushed (Some l) (Some x)) (subst (λ (y : ValueOrError). result_depth y ≤ depth_limit) (grind arith) within) in
      binary values l x _ 1 push_row (λ a c d e f. refl) (subst (λ (y : ValueOrError). IsNamed y 1 (push_row l x)) (sym (grind arith)) grown) first second;
  push_deep = λ b l x first second deep.
      let over = grown_deep (store.pushed (Some l) (Some x)) (subst (λ (y : ValueOrError). depth_limit < result_depth y) (grind arith) deep) in
      ap (answer_among b.values.values) (two_operands b.values.values (b.registers R1) (b.registers R2) l x push_row first second ∙ over);
  map_new = λ roots b values. places (pos 18) b (0 ∷ 0 ∷ 0 ∷ 0 ∷ 0 ∷ []) (three 0 0 0 (lit< tt) (lit< tt) (lit< tt)) values.table map_new_row _ 0 refl refl (Placed (map no_entries) refl refl);
  put = λ roots b m k x values first second third within.
      let h = b.registers R1 in
      let i = b.registers R2 in
      let j = b.registers R3 in
      places (pos 19) b (h ∷ i ∷ j ∷ 0 ∷ 0 ∷ []) (three h i j (small_reference b.values h m values.table first) (small_reference b.values i k values.table second) (small_reference b.values j x values.table third)) values.table (put_row m k x) _ 1 refl (put_said b.values.values h i j m k x first second third) (grown_is (entered (Some m) (Some k) (Some x)) within);
  put_deep = λ b m k x first second third deep.
      ap (answer_among b.values.values) (put_said b.values.values (b.registers R1) (b.registers R2) (b.registers R3) m k x first second third ∙ grown_deep (entered (Some m) (Some k) (Some x)) deep);
  item = λ roots b x items v i values named at short range found_at.
      let h = b.registers R1 in
      let row : outcome_of (pos 20) (h ∷ i ∷ 0 ∷ 0 ∷ 0 ∷ []) b.values.values b.memory.constants ≡ Named v 0 = one_operand b.values.values h x (λ u. item_row u i) named ∙ ap found (item_is x items i range ∙ found_at) in
      places (pos 20) b (h ∷ i ∷ 0 ∷ 0 ∷ 0 ∷ []) (three h i 0 (small_reference b.values h x values.table named) short (lit< tt)) values.table (Named v 0) _ 0 (ap (λ (j : ℕ). on_value b.values.values h (λ u. item_row u j)) at) row (Placed v refl refl);
  count = λ roots b x items values named range. unary_word values x _ count_row (λ a c d e f. refl) (ap (λ (n : ℕ). Plain n 0) (count_is x items range)) named;
  no_count = λ roots b x values named none. unary_word values x _ count_row (λ a c d e f. refl) (ap (λ (n : ℕ). Plain n 0) (grind arith)) named;
  text_of_int = λ roots b z values named. unary values (value (int z)) _ (length (signed_decimal z)) text_of_int_row (λ a c d e f. refl) (Placed (text (signed_decimal z)) refl refl) named;
  no_text_of_int = λ roots b x values named none. unary values x _ 0 text_of_int_row (λ a c d e f. refl) (no_decimal x none) named;
  not = λ roots b x values named. unary values x _ 0 not_row (λ a c d e f. refl) (by_truth _ (grind arith)) named;
}
