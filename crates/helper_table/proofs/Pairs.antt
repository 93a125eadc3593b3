-- The operand pairs that the tests of the store are defined for.
use Rattle.value_store.specs.Calls.{equal_at}
use Rattle.helper_table.proofs.Prelude.{◌≡◌, Option, Some, None, Bool, false, ◌&&◌, arith, ◌+◌, length, true, length-append, option_map, is_some, less_at, member_at, pushed, joined, Seen, outcome_view, seen_size, ValueOrError, Value, Items, no_items, item, list_of, items_join, is_value, is_list, have_order, may_be_in, can_join, sequence, named}

pub nothing : (o : Option Bool) → false ≡ is_some o → None ≡ o
nothing o e = grind arith

-- what holds of the outlines holds of the values
pair : {A : Type 0} (test : Seen → Seen → Bool) (at : Option ValueOrError → Option ValueOrError → Option A) → ((x y : ValueOrError) → test (outcome_view x) (outcome_view y) ≡ is_some (at (Some x) (Some y))) → (a b : Option ValueOrError) (s t : Seen) → option_map outcome_view a ≡ Some s → option_map outcome_view b ≡ Some t → test s t ≡ is_some (at a b)
pair test at same a b s t e f = grind arith

equal_same : (x y : ValueOrError) → (is_value (outcome_view x) && is_value (outcome_view y)) ≡ is_some (equal_at (Some x) (Some y))
equal_same x y = grind arith

pub equal_pair : (a b : Option ValueOrError) (s t : Seen) → option_map outcome_view a ≡ Some s → option_map outcome_view b ≡ Some t → (is_value s && is_value t) ≡ is_some (equal_at a b)
equal_pair = pair (λ s t. is_value s && is_value t) equal_at equal_same

less_same : (x y : ValueOrError) → have_order (outcome_view x) (outcome_view y) ≡ is_some (less_at (Some x) (Some y))
less_same x y = grind arith

pub less_pair : (a b : Option ValueOrError) (s t : Seen) → option_map outcome_view a ≡ Some s → option_map outcome_view b ≡ Some t → have_order s t ≡ is_some (less_at a b)
less_pair = pair have_order less_at less_same

member_same : (x y : ValueOrError) → may_be_in (outcome_view x) (outcome_view y) ≡ is_some (member_at (Some x) (Some y))
member_same x y = grind arith

pub member_pair : (a b : Option ValueOrError) (s t : Seen) → option_map outcome_view a ≡ Some s → option_map outcome_view b ≡ Some t → may_be_in s t ≡ is_some (member_at a b)
member_pair = pair may_be_in member_at member_same

pub push_pair : (a b : Option ValueOrError) (s t : Seen) → option_map outcome_view a ≡ Some s → option_map outcome_view b ≡ Some t → (is_list s && is_value t) ≡ is_some (pushed a b)
push_pair a b s t h k = grind arith

-- ---- two texts or two lists, joined

join_length : (is js : Items) → length (list_of is) + length (list_of js) ≡ length (list_of (items_join is js))
join_length no_items js = omega arith
join_length (item v is) js = grind (arith, join_length is js)

-- the concatenation of two operands
record Joins (s t : Seen) (v : Option Value) : Type 0 where
  pub can : can_join s t ≡ is_some v
  pub outcome : can_join s t ≡ true → named v (seen_size s + seen_size t) ≡ sequence v

operands_join : (x y : ValueOrError) → Joins (outcome_view x) (outcome_view y) (joined (Some x) (Some y))
operands_join x y = grind (arith, length-append, join_length)

pub joins : (a b : Option ValueOrError) (s t : Seen) → option_map outcome_view a ≡ Some s → option_map outcome_view b ≡ Some t → can_join s t ≡ true
    → named (joined a b) (seen_size s + seen_size t) ≡ sequence (joined a b)
joins a b s t e f can = grind (arith, operands_join)
