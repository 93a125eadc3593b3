-- Logical operators and the conditional, worked out by hand.
use Rattle.cel_reader.specs.Tree.{unary, binary, ternary}
use Rattle.cel_reader.specs.declared.operator.BinaryOperator.TheVariants.{Or, And, Equal, Divide}
use Rattle.cel_reader.specs.declared.operator.UnaryOperator.TheVariants.{Not}
use Rattle.value_store.specs.Value.{error}
use Rattle.std.specs.Prelude.{pos}
use Rattle.cel_reader.specs.Written.{num, yes, no}
use Rattle.cel_macros.specs.Written.{is_true, is_false, number, Means}

-- meanings of logical operators and conditionals, in the review of `Written`
pub record LogicRows : Type 0 where
  -- 1/0 == 1 || true
  pub or_absorbs_left : Means (binary Or (binary Equal (binary Divide (num 1) (num 0)) (num 1)) yes) is_true
  -- true || 1/0 == 1
  pub or_absorbs_right : Means (binary Or yes (binary Equal (binary Divide (num 1) (num 0)) (num 1))) is_true
  -- 1/0 == 1 || false
  pub or_keeps_error : Means (binary Or (binary Equal (binary Divide (num 1) (num 0)) (num 1)) no) error
  -- 1 || true
  pub or_no_truth : Means (binary Or (num 1) yes) is_true
  -- true && 1/0 == 1
  pub and_keeps_error : Means (binary And yes (binary Equal (binary Divide (num 1) (num 0)) (num 1))) error
  -- 1/0 == 1 && false
  pub and_absorbs_left : Means (binary And (binary Equal (binary Divide (num 1) (num 0)) (num 1)) no) is_false
  -- 1 && true
  pub and_no_truth : Means (binary And (num 1) yes) error
  -- true && true
  pub and_true : Means (binary And yes yes) is_true
  -- !true
  pub not_true : Means (unary Not yes) is_false
  -- !1
  pub not_int : Means (unary Not (num 1)) error
  -- (false ? 1/0 : 7) == 7
  pub ternary_takes_one : Means (binary Equal (ternary no (binary Divide (num 1) (num 0)) (num 7)) (num 7)) is_true
  -- 1 ? 2 : 3
  pub ternary_other : Means (ternary (num 1) (num 2) (num 3)) error
  -- (1/0 == 1) ? 2 : 3
  pub ternary_error : Means (ternary (binary Equal (binary Divide (num 1) (num 0)) (num 1)) (num 2) (num 3)) error
  -- false && 1/0 == 1
  pub and_absorbs_right : Means (binary And no (binary Equal (binary Divide (num 1) (num 0)) (num 1))) is_false
  -- 1 && false
  pub and_absorbs_no_truth : Means (binary And (num 1) no) is_false
  -- false || 1
  pub or_of_int : Means (binary Or no (num 1)) error
  -- false || false
  pub or_false : Means (binary Or no no) is_false
  -- !(1/0 == 1)
  pub not_error : Means (unary Not (binary Equal (binary Divide (num 1) (num 0)) (num 1))) error
  -- true ? 1 : 1/0
  pub ternary_leaves_other : Means (ternary yes (num 1) (binary Divide (num 1) (num 0))) (number (pos 1))
  -- false ? 1 : 1/0
  pub ternary_chosen_error : Means (ternary no (num 1) (binary Divide (num 1) (num 0))) error
  -- true && false
  pub and_false_right : Means (binary And yes no) is_false
  -- false && true
  pub and_false_left : Means (binary And no yes) is_false
  -- false && false
  pub and_false : Means (binary And no no) is_false
  -- 1 && 1
  pub and_of_ints : Means (binary And (num 1) (num 1)) error
  -- true || true
  pub or_true : Means (binary Or yes yes) is_true
  -- true || false
  pub or_true_left : Means (binary Or yes no) is_true
  -- false || true
  pub or_true_right : Means (binary Or no yes) is_true
  -- 1 || 1
  pub or_of_ints : Means (binary Or (num 1) (num 1)) error
  -- !false
  pub not_false : Means (unary Not no) is_true
