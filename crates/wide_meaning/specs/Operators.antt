-- Operators and literals.
use Rattle.std.specs.Prelude.{ℕ, Bool, true, false, not, List, Option, Some, None, option_map}
use Rattle.value_store.specs.Value.{Value, value, boolean, Entries}
use Rattle.value_store.specs.Equality.{equal}
use Rattle.cel_reader.specs.declared.operator.BinaryOperator.{BinaryOperator}
use Rattle.cel_reader.specs.declared.operator.BinaryOperator.TheVariants.{Equal, NotEqual, In}
use Rattle.cel_reader.specs.declared.operator.UnaryOperator.{UnaryOperator}
use Rattle.cel_macros.specs.Literals.{list_or_error, map_or_error, text_part, with_entry, with_value}
use Rattle.cel_macros.specs.Logic.{truth, chosen}
use Rattle.cel_macros.specs.Meaning.{unary_of, binary_of}
use Rattle.wide_reader.specs.declared.wide.Access.{Access, TheVariants.Plain, TheVariants.Optional}
use Rattle.wide_meaning.specs.Outcome.{Outcome, failed, plain, absent, present, outcome_of, plain_part}

-- whether two optional values are equal: both have no value, or equal values
abbrev pub same_optional : Option Value → Option Value → Bool
same_optional (Some a) (Some b) = equal a b
same_optional None None = true
same_optional _ _ = false

-- x == y; None if an operand is the error. A value equals no optional value
abbrev pub same : Outcome → Outcome → Option Bool
same failed y = None
same x failed = None
same (plain a) (plain b) = Some (equal a b)
same (plain a) _ = Some false
same _ (plain b) = Some false
same absent absent = Some true
same absent (present b) = Some false
same (present a) absent = Some false
same (present a) (present b) = Some (equal a b)

-- a test as an outcome
abbrev pub tested : Option Bool → Outcome
tested (Some b) = plain (boolean b)
tested None = failed

-- a binary operator; whether its right operand is written `[]` is the first argument: nothing is in it, not even the
-- error
abbrev pub binary_in : Bool → BinaryOperator → Outcome → Outcome → Outcome
binary_in true In x y = plain (boolean false)
binary_in _ Equal x y = tested (same x y)
binary_in _ NotEqual x y = tested (option_map not (same x y))
binary_in _ op x y = outcome_of (binary_of op (plain_part x) (plain_part y))

-- a unary operator
abbrev pub unary_in : UnaryOperator → Outcome → Outcome
unary_in op x = outcome_of (unary_of op (plain_part x))

-- c ? a : b, regardless of the other branch; the error if c is not a bool
abbrev pub ternary_in : Outcome → Outcome → Outcome → Outcome
ternary_in c a b = chosen (truth (plain_part c)) a b failed

-- the values of a list literal with one more item: an optional one is left out if it has no value; None for the error
abbrev pub item_in : Access → Outcome → Option (List Value) → Option (List Value)
item_in Plain x more = with_value (plain_part x) more
item_in Optional (present v) more = with_value (value v) more
item_in Optional absent more = more
item_in Optional _ more = None

-- the entries, if the key is a text
abbrev pub if_text : Option (List ℕ) → Option Entries → Option Entries
if_text (Some k) more = more
if_text None more = None

-- the entries of a map literal with one more: an optional one is left out if it has no value; None for the error
abbrev pub entry_in : Access → Outcome → Outcome → Option Entries → Option Entries
entry_in Plain k x more = with_entry (text_part (plain_part k)) (plain_part x) more
entry_in Optional k (present v) more = with_entry (text_part (plain_part k)) (value v) more
entry_in Optional k absent more = if_text (text_part (plain_part k)) more
entry_in Optional k _ more = None

-- a list or a map of the values, or the error if there are none
abbrev pub list_in : Option (List Value) → Outcome
list_in vs = outcome_of (list_or_error vs)

abbrev pub map_in : Option Entries → Outcome
map_in es = outcome_of (map_or_error es)
