-- The rows that compare two values, and return a bool.
use Rattle.std.specs.Prelude.{ℕ, Bool, ◌||◌, List, [], ◌∷◌, Option, Some, None, nat_eq}
use Rattle.std.specs.List.{starts_with, ends_with}
use Rattle.value_store.specs.Calls.{equal_at, less_at, member_at}
use Rattle.value_store.specs.Seen.{outcome_view}
use Rattle.value_store.specs.Value.{ValueOrError}
use Rattle.helper_table.specs.declared.text_test.TextTest.{TextTest, TheVariants.Starts, TheVariants.Ends, TheVariants.Contains}
use Rattle.helper_table.specs.Operands.{text_part}
use Rattle.helper_table.specs.Outcome.{RowOutcome, truth}

-- deep equality of two values
unfoldable pub equal_row : ValueOrError → ValueOrError → RowOutcome
equal_row a b = truth (equal_at (Some a) (Some b))

-- the order of two ints, of two texts by code points, and of two bools, false less than true
unfoldable pub less_row : ValueOrError → ValueOrError → RowOutcome
less_row a b = truth (less_at (Some a) (Some b))

-- whether a value equals an item of a list, or a text is a key of a map
unfoldable pub member_row : ValueOrError → ValueOrError → RowOutcome
member_row x c = truth (member_at (Some x) (Some c))

-- a test of two texts
abbrev pub on_texts : (List ℕ → List ℕ → Bool) → Option (List ℕ) → Option (List ℕ) → Option Bool
on_texts test (Some s) (Some t) = Some (test s t)
on_texts test (Some s) None = None
on_texts test None t = None

-- whether a test holds for two texts; the error if one is not a text
abbrev pub text_row : (List ℕ → List ℕ → Bool) → ValueOrError → ValueOrError → RowOutcome
text_row test a b = truth (on_texts test (text_part (outcome_view a)) (text_part (outcome_view b)))

-- whether the first of two texts starts with the second
unfoldable pub starts_row : ValueOrError → ValueOrError → RowOutcome
starts_row = text_row (starts_with nat_eq)

-- whether the first of two texts ends with the second
unfoldable pub ends_row : ValueOrError → ValueOrError → RowOutcome
ends_row = text_row (ends_with nat_eq)

-- whether the part occurs in the text
abbrev pub contains : List ℕ → List ℕ → Bool
contains [] part = starts_with nat_eq [] part
contains (b ∷ bs) part = starts_with nat_eq (b ∷ bs) part || contains bs part

-- the definition of each test
abbrev pub test_of : TextTest → List ℕ → List ℕ → Bool
test_of Starts = starts_with nat_eq
test_of Ends = ends_with nat_eq
test_of Contains = contains

-- whether the first of two texts contains the second
unfoldable pub contains_row : ValueOrError → ValueOrError → RowOutcome
contains_row = text_row contains
