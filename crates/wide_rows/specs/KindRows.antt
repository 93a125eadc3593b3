-- Kinds of literals, of results of operators and of values (cel-spec, values and standard definitions), worked by hand.
use Rattle.std.specs.Prelude.{◌≡◌, true, false, pos, codes}
use Rattle.cel_reader.specs.Tree as tree
use Rattle.cel_reader.specs.declared.operator.BinaryOperator.TheVariants as op
use Rattle.cel_reader.specs.declared.operator.UnaryOperator.TheVariants as unary
use Rattle.value_store.specs.Value.{error, value, null, boolean, int, text, list, map, no_items, no_entries}
use Rattle.wide_kinds.specs.Fitting.{has_kind, FitsKind, IsOfKind, IsOptionalOf}
use Rattle.wide_kinds.specs.Kinds.{literal_kind, unary_kind, binary_kind, joined_kind}
use Rattle.wide_kinds.specs.declared.kind.ValueKind.TheVariants as kind
use Rattle.wide_meaning.specs.Outcome.{failed, plain, absent, present}

-- what the form of an expression says of its value
pub record KindRowsStand : Type 0 where
  pub of_int : literal_kind (tree.int (pos 1)) ≡ kind.Int
  pub of_text : literal_kind (tree.text (codes "a")) ≡ kind.String
  pub of_true : literal_kind (tree.truth true) ≡ kind.Bool
  pub of_null : literal_kind tree.null ≡ kind.Null
  pub not : unary_kind unary.Not ≡ kind.Bool
  pub negated : unary_kind unary.Negate ≡ kind.Int
  pub ints_added : binary_kind op.Add kind.Int kind.Int ≡ kind.Int
  pub texts_joined : binary_kind op.Add kind.String kind.String ≡ kind.String
  pub lists_joined : binary_kind op.Add kind.List kind.List ≡ kind.List
  pub unknown_and_int : binary_kind op.Add kind.Dyn kind.Int ≡ kind.Int
  pub unknown_and_text : binary_kind op.Add kind.Dyn kind.String ≡ kind.String
  pub unknown_and_list : binary_kind op.Add kind.Dyn kind.List ≡ kind.List
  pub int_and_unknown : binary_kind op.Add kind.Int kind.Dyn ≡ kind.Int
  pub text_and_unknown : binary_kind op.Add kind.String kind.Dyn ≡ kind.String
  pub list_and_unknown : binary_kind op.Add kind.List kind.Dyn ≡ kind.List
  pub both_unknown : binary_kind op.Add kind.Dyn kind.Dyn ≡ kind.Dyn
  pub sum_of_bools : binary_kind op.Add kind.Bool kind.Int ≡ kind.Dyn
  pub sum_of_maps : binary_kind op.Add kind.Map kind.Map ≡ kind.Dyn
  pub sum_of_nulls : binary_kind op.Add kind.Null kind.Int ≡ kind.Dyn
  pub difference : binary_kind op.Subtract kind.Dyn kind.Dyn ≡ kind.Int
  pub product : binary_kind op.Multiply kind.Dyn kind.Dyn ≡ kind.Int
  pub quotient : binary_kind op.Divide kind.Dyn kind.Dyn ≡ kind.Int
  pub remainder : binary_kind op.Remainder kind.Dyn kind.Dyn ≡ kind.Int
  pub or : binary_kind op.Or kind.Dyn kind.Dyn ≡ kind.Bool
  pub and : binary_kind op.And kind.Dyn kind.Dyn ≡ kind.Bool
  pub less : binary_kind op.Less kind.Int kind.Int ≡ kind.Bool
  pub less_equal : binary_kind op.LessEqual kind.Int kind.Int ≡ kind.Bool
  pub greater : binary_kind op.Greater kind.Int kind.Int ≡ kind.Bool
  pub greater_equal : binary_kind op.GreaterEqual kind.Int kind.Int ≡ kind.Bool
  pub equal : binary_kind op.Equal kind.Int kind.String ≡ kind.Bool
  pub not_equal : binary_kind op.NotEqual kind.Int kind.Int ≡ kind.Bool
  pub within : binary_kind op.In kind.Int kind.List ≡ kind.Bool
  pub two_nulls : joined_kind kind.Null kind.Null ≡ kind.Null
  pub two_bools : joined_kind kind.Bool kind.Bool ≡ kind.Bool
  pub two_ints : joined_kind kind.Int kind.Int ≡ kind.Int
  pub two_texts : joined_kind kind.String kind.String ≡ kind.String
  pub two_lists : joined_kind kind.List kind.List ≡ kind.List
  pub two_maps : joined_kind kind.Map kind.Map ≡ kind.Map
  pub null_or_bool : joined_kind kind.Null kind.Bool ≡ kind.Dyn
  pub bool_or_null : joined_kind kind.Bool kind.Null ≡ kind.Dyn
  pub int_or_text : joined_kind kind.Int kind.String ≡ kind.Dyn
  pub text_or_int : joined_kind kind.String kind.Int ≡ kind.Dyn
  pub list_or_map : joined_kind kind.List kind.Map ≡ kind.Dyn
  pub map_or_list : joined_kind kind.Map kind.List ≡ kind.Dyn
  pub unknown_or_int : joined_kind kind.Dyn kind.Int ≡ kind.Dyn
  pub bool_or_unknown : joined_kind kind.Bool kind.Dyn ≡ kind.Dyn
  pub null_or_unknown : joined_kind kind.Null kind.Dyn ≡ kind.Dyn
  pub int_or_unknown : joined_kind kind.Int kind.Dyn ≡ kind.Dyn
  pub text_or_unknown : joined_kind kind.String kind.Dyn ≡ kind.Dyn
  pub list_or_unknown : joined_kind kind.List kind.Dyn ≡ kind.Dyn
  pub map_or_unknown : joined_kind kind.Map kind.Dyn ≡ kind.Dyn

-- the kinds of values
pub record FittingRowsStand : Type 0 where
  pub null_is_null : has_kind kind.Null null ≡ true
  pub bool_is_bool : has_kind kind.Bool (boolean false) ≡ true
  pub int_is_int : has_kind kind.Int (int (pos 0)) ≡ true
  pub text_is_text : has_kind kind.String (text (codes "")) ≡ true
  pub list_is_list : has_kind kind.List (list no_items) ≡ true
  pub map_is_map : has_kind kind.Map (map no_entries) ≡ true
  pub null_of_any : has_kind kind.Dyn null ≡ true
  pub bool_of_any : has_kind kind.Dyn (boolean true) ≡ true
  pub int_of_any : has_kind kind.Dyn (int (pos 0)) ≡ true
  pub text_of_any : has_kind kind.Dyn (text (codes "a")) ≡ true
  pub list_of_any : has_kind kind.Dyn (list no_items) ≡ true
  pub map_of_any : has_kind kind.Dyn (map no_entries) ≡ true
  pub int_is_no_null : has_kind kind.Null (int (pos 0)) ≡ false
  pub null_is_no_bool : has_kind kind.Bool null ≡ false
  pub text_is_no_int : has_kind kind.Int (text (codes "1")) ≡ false
  pub null_is_no_text : has_kind kind.String null ≡ false
  pub map_is_no_list : has_kind kind.List (map no_entries) ≡ false
  pub list_is_no_map : has_kind kind.Map (list no_items) ≡ false
  pub bool_is_no_null : has_kind kind.Null (boolean false) ≡ false
  pub int_is_no_bool : has_kind kind.Bool (int (pos 0)) ≡ false
  pub error_fits : FitsKind kind.Int error
  pub value_fits : FitsKind kind.Int (value (int (pos 1)))
  pub other_value_does_not : FitsKind kind.Int (value null) → ⊥
  pub failed_is_of_kind : IsOfKind kind.Int failed
  pub plain_is_of_kind : IsOfKind kind.Int (plain (int (pos 1)))
  pub other_plain_is_not : IsOfKind kind.Int (plain null) → ⊥
  pub absent_is_not : IsOfKind kind.Dyn absent → ⊥
  pub present_is_not : IsOfKind kind.Dyn (present null) → ⊥
  pub failed_is_optional : IsOptionalOf kind.Int failed
  pub absent_is_optional : IsOptionalOf kind.Int absent
  pub present_is_optional : IsOptionalOf kind.Int (present (int (pos 1)))
  pub other_present_is_not : IsOptionalOf kind.Int (present null) → ⊥
  pub plain_is_not : IsOptionalOf kind.Dyn (plain null) → ⊥
