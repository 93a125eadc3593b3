-- The element that is told of a list: the first that passes a test, else the first.
use Rattle.std.specs.Prelude.{Bool, List, [], ◌∷◌, find, Option, Some, None, if◌then◌else◌}
use Rattle.std.specs.Option.{option_or}

abbrev pub first_of : {A : Type 0} → List A → Option A
first_of [] = None
first_of (x ∷ xs) = Some x

-- the first that passes the test, else the first
abbrev pub told_of : {A : Type 0} → (A → Bool) → List A → Option A
told_of passes xs = option_or (find passes xs) (first_of xs)

-- what is told after one more
abbrev pub preferred : {A : Type 0} → (A → Bool) → Option A → A → A
preferred passes None later = later
preferred passes (Some first) later = if passes first then first else (if passes later then later else first)
