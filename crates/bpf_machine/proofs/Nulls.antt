-- The values of five null roots are a table.
use Rattle.bpf_machine.proofs.Prelude.{ℕ, List, [], ◌∷◌, arith, IsResultBounded, IsTable, ValueOrError, null_values}

abbrev Each : ℕ → List ValueOrError → Type 0
Each n [] = Unit {0}
Each n (x ∷ xs) = IsResultBounded n x × Each n xs

pub nulls_table : IsTable null_values
unfolding null_values
nulls_table = grind arith
