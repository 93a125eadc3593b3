-- What a wide expression evaluates to.
use Rattle.std.specs.Prelude.{Option, Some, None, true, false}
use Rattle.value_store.specs.Value.{Value, ValueOrError, error, value, boolean}

-- the error; a value; an optional value without a value; an optional value with one
pub data Outcome : Type 0 where
  failed : Outcome
  plain : Value → Outcome
  absent : Outcome
  present : Value → Outcome

-- a value or the error as an outcome
abbrev pub outcome_of : ValueOrError → Outcome
outcome_of error = failed
outcome_of (value v) = plain v

-- the value; the error for an optional value
abbrev pub plain_part : Outcome → ValueOrError
plain_part (plain v) = value v
plain_part _ = error

-- a value that may be missing as an optional value
abbrev pub optional_of : Option Value → Outcome
optional_of None = absent
optional_of (Some v) = present v

-- the optional value with this value; the error for all else
abbrev pub some_of : Outcome → Outcome
some_of (plain v) = present v
some_of _ = failed

-- whether an optional value has a value; the error for all else
abbrev pub is_present : Outcome → Outcome
is_present absent = plain (boolean false)
is_present (present v) = plain (boolean true)
is_present _ = failed

-- the value of an optional value; the error if it has none, and for all else
abbrev pub value_in : Outcome → Outcome
value_in (present v) = plain v
value_in _ = failed

-- the value of an optional value, or d if it has none; the error for all else
abbrev pub value_or : Outcome → Outcome → Outcome
value_or absent d = d
value_or (present v) d = plain v
value_or _ d = failed

-- the optional value, or p if it has no value; the error for all else
abbrev pub first_of : Outcome → Outcome → Outcome
first_of absent p = p
first_of (present v) p = present v
first_of _ p = failed
