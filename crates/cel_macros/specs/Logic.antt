-- Logical operators and the conditional (cel-spec, Logical Operators).
use Rattle.std.specs.Prelude.{true, false, not}
use Rattle.value_store.specs.Value.{ValueOrError, error, value, boolean}

-- a result as an operand of a logical operator: true, false, or neither
pub data Truth : Type 0 where
  Yes : Truth
  No : Truth
  Other : Truth

-- the operand that a result is
abbrev pub truth : ValueOrError → Truth
truth (value (boolean true)) = Yes
truth (value (boolean false)) = No
truth _ = Other

-- a truth as a result; neither true nor false gives the error
abbrev pub of_truth : Truth → ValueOrError
of_truth Yes = value (boolean true)
of_truth No = value (boolean false)
of_truth Other = error

-- false on either side decides, for any other side
abbrev pub conjunction : Truth → Truth → Truth
conjunction No t = No
conjunction s No = No
conjunction Yes Yes = Yes
conjunction _ _ = Other

-- true on either side decides, for any other side
abbrev pub disjunction : Truth → Truth → Truth
disjunction Yes t = Yes
disjunction s Yes = Yes
disjunction No No = No
disjunction _ _ = Other

-- x && y: false if either is false, true if both are true, else the error (cel-spec, Logical Operators)
abbrev pub and_of : ValueOrError → ValueOrError → ValueOrError
and_of x y = of_truth (conjunction (truth x) (truth y))

-- x || y: true if either is true, false if both are false, else the error (cel-spec, Logical Operators)
abbrev pub or_of : ValueOrError → ValueOrError → ValueOrError
or_of x y = of_truth (disjunction (truth x) (truth y))

-- !x of a bool; the error for all else (cel-spec, Logical Operators)
abbrev pub not_of : ValueOrError → ValueOrError
not_of (value (boolean b)) = value (boolean (not b))
not_of _ = error

-- a if the condition is true, b if it is false, c if it is neither
abbrev pub chosen : {A : Type 0} → Truth → A → A → A → A
chosen Yes a b c = a
chosen No a b c = b
chosen Other a b c = c

-- c ? a : b, regardless of the other branch; the error if c is not a bool (cel-spec, Logical Operators)
abbrev pub ternary_of : ValueOrError → ValueOrError → ValueOrError → ValueOrError
ternary_of c a b = chosen (truth c) a b error
