-- The result of parsing the words of a command line.
use Rattle.std.specs.Prelude.{◌≡◌, [], Result, Ok, Err}
use Rattle.clap.specs.Words.{Kinds}
use Rattle.host.specs.declared.order_error.OrderError.{OrderError, TheVariants.InvalidArguments, TheVariants.Memory}

-- why words with these errors are refused: they have an error, or an allocation failed, which says nothing about them
abbrev pub IsNotTaken : Kinds → OrderError → Type 0
IsNotTaken faults InvalidArguments = faults ≡ [] → ⊥
IsNotTaken faults Memory = Unit {0}

-- words are accepted only if they have no error, and then `holds` is true of the result
abbrev pub TakesWords : {A : Type 0} → Kinds → (A → Type 0) → Result A OrderError → Type 0
TakesWords faults holds (Ok a) = (faults ≡ []) × holds a
TakesWords faults holds (Err e) = IsNotTaken faults e
