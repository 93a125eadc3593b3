-- Arithmetic on ints, and concatenation, worked out by hand.
use Rattle.std.specs.Prelude.{pos, negsuc, [], ◌∷◌}
use Rattle.cel_reader.specs.Tree.{unary, binary}
use Rattle.cel_reader.specs.declared.operator.BinaryOperator.TheVariants.{Add, Subtract, Multiply, Divide, Remainder}
use Rattle.cel_reader.specs.declared.operator.UnaryOperator.TheVariants.{Negate}
use Rattle.value_store.specs.Value.{int, error}
use Rattle.cel_reader.specs.Written.{num, neg, str, list_literal}
use Rattle.cel_macros.specs.Written.{number, word, list_value, Means}

-- meanings of expressions with arithmetic operators and concatenation, in the review of `Written`
pub record ArithmeticRows : Type 0 where
  -- 2 + 3
  pub sum : Means (binary Add (num 2) (num 3)) (number (pos 5))
  -- 9223372036854775807 + 1
  pub sum_overflows : Means (binary Add (num 9223372036854775807) (num 1)) error
  -- -9223372036854775808 - 1
  pub difference_overflows : Means (binary Subtract (neg 9223372036854775808) (num 1)) error
  -- 4611686018427387904 * 2
  pub product_overflows : Means (binary Multiply (num 4611686018427387904) (num 2)) error
  -- -3 * 5
  pub product_of_signs : Means (binary Multiply (neg 3) (num 5)) (number (negsuc 14))
  -- -(-9223372036854775808)
  pub negation_overflows : Means (unary Negate (neg 9223372036854775808)) error
  -- -(5)
  pub negation : Means (unary Negate (num 5)) (number (negsuc 4))
  -- -9223372036854775808 / -1
  pub quotient_overflows : Means (binary Divide (neg 9223372036854775808) (neg 1)) error
  -- -7 / 2
  pub quotient_truncates : Means (binary Divide (neg 7) (num 2)) (number (negsuc 2))
  -- 1 / 0
  pub quotient_by_zero : Means (binary Divide (num 1) (num 0)) error
  -- -7 % 2
  pub remainder_has_dividends_sign : Means (binary Remainder (neg 7) (num 2)) (number (negsuc 0))
  -- 7 % -2
  pub remainder_of_negative_divisor : Means (binary Remainder (num 7) (neg 2)) (number (pos 1))
  -- -9223372036854775808 % -1
  pub remainder_least : Means (binary Remainder (neg 9223372036854775808) (neg 1)) error
  -- 1 % 0
  pub remainder_by_zero : Means (binary Remainder (num 1) (num 0)) error
  -- 'a' + 'b'
  pub texts_join : Means (binary Add (str "a") (str "b")) (word "ab")
  -- [1] + [2]
  pub lists_join : Means (binary Add (list_literal ((num 1) ∷ [])) (list_literal ((num 2) ∷ [])))
      (list_value (int (pos 1) ∷ int (pos 2) ∷ []))
  -- 'a' + 1
  pub kinds_do_not_join : Means (binary Add (str "a") (num 1)) error
  -- 1/0 + 1
  pub sum_of_error : Means (binary Add (binary Divide (num 1) (num 0)) (num 1)) error
  -- 2 - 5
  pub difference : Means (binary Subtract (num 2) (num 5)) (number (negsuc 2))
  -- -9223372036854775807 - 1
  pub least_is_reached : Means (binary Subtract (neg 9223372036854775807) (num 1)) (number (negsuc 9223372036854775807))
  -- 9223372036854775806 + 1
  pub greatest_is_reached : Means (binary Add (num 9223372036854775806) (num 1)) (number (pos 9223372036854775807))
  -- 7 / 2
  pub quotient : Means (binary Divide (num 7) (num 2)) (number (pos 3))
  -- 'a' - 'a'
  pub difference_of_texts : Means (binary Subtract (str "a") (str "a")) error
  -- -'a'
  pub negation_of_text : Means (unary Negate (str "a")) error
  -- [1] + 'a'
  pub list_and_text_do_not_join : Means (binary Add (list_literal ((num 1) ∷ [])) (str "a")) error
  -- 7 / -1
  pub quotient_by_minus_one : Means (binary Divide (num 7) (neg 1)) (number (negsuc 6))
  -- 7 % -1
  pub remainder_by_minus_one : Means (binary Remainder (num 7) (neg 1)) (number (pos 0))
