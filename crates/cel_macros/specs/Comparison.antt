-- Equality, order and membership (cel-spec, Equality, Ordering).
use Rattle.std.specs.Prelude.{Bool, not, Option, Some, None, option_map}
use Rattle.value_store.specs.Value.{Value, ValueOrError, error, value, boolean}
use Rattle.value_store.specs.Equality.{equal}
use Rattle.value_store.specs.Order.{less}
use Rattle.value_store.specs.Lookup.{member}

-- a bool as a result; the error if there is none
abbrev pub truth_or_error : Option Bool → ValueOrError
truth_or_error (Some b) = value (boolean b)
truth_or_error None = error

-- a test of two values; the error if an operand is the error, or if the test is undefined
abbrev pub on_values : (Value → Value → Option Bool) → ValueOrError → ValueOrError → ValueOrError
on_values test (value a) (value b) = truth_or_error (test a b)
on_values test _ _ = error

-- x == y of two values, deeply; values of different kinds are unequal (cel-spec, Equality)
abbrev pub equal_of : ValueOrError → ValueOrError → ValueOrError
equal_of = on_values (λ a b. Some (equal a b))

-- x != y of two values: whether x == y is false (cel-spec, Equality)
abbrev pub unequal_of : ValueOrError → ValueOrError → ValueOrError
unequal_of = on_values (λ a b. Some (not (equal a b)))

-- x < y of two ints, two texts or two bools; the error for all else (cel-spec, Ordering)
abbrev pub less_of : ValueOrError → ValueOrError → ValueOrError
less_of = on_values less

-- x <= y: whether y < x is false (cel-spec, Ordering)
abbrev pub less_equal_of : ValueOrError → ValueOrError → ValueOrError
less_equal_of = on_values (λ a b. option_map not (less b a))

-- x > y: y < x (cel-spec, Ordering)
abbrev pub greater_of : ValueOrError → ValueOrError → ValueOrError
greater_of = on_values (λ a b. less b a)

-- x >= y: whether x < y is false (cel-spec, Ordering)
abbrev pub greater_equal_of : ValueOrError → ValueOrError → ValueOrError
greater_equal_of = on_values (λ a b. option_map not (less a b))

-- x in y: the list y has an item equal to x, or the map y has the text x as a key; the error for all
-- else (cel-spec, List of Standard Definitions)
abbrev pub member_of : ValueOrError → ValueOrError → ValueOrError
member_of = on_values member
