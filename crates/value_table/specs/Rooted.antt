-- Tables whose roots are values of another table.
use Rattle.std.specs.Prelude.{ℕ, List, [], ◌∷◌, IsSome, slice_get, slice_index_or, ⊤}
use Rattle.value_store.specs.Calls.{value_at}
use Rattle.value_store.specs.Value.{ValueOrError, error}

-- each of the references has a value
abbrev pub HaveValues : List ValueOrError → List ℕ → Type 0
HaveValues vs [] = ⊤
HaveValues vs (h ∷ hs) = IsSome (value_at (slice_get vs h)) × HaveValues vs hs

-- the values of the references
abbrev pub picked : List ValueOrError → List ℕ → List ValueOrError
picked vs [] = []
picked vs (h ∷ hs) = slice_index_or vs h error ∷ picked vs hs
