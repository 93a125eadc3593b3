-- What a call reads, by the outlines of two values and the lengths of their JSON texts.
use Rattle.helper_table.proofs.Prelude.{◌≡◌, ◌≤◌, ◌^◌, ℕ, Option, Some, None, arith, option_map, Seen, outcome_view, ValueOrError}
use Rattle.value_store.specs.Json.{json_length}
use Rattle.helper_table.specs.Reads.{on_both}

pub by_lengths : (a b : Option ValueOrError) (s t : Seen) (m n : ℕ) (row : Seen → Seen → ℕ → ℕ → ℕ) → option_map outcome_view a ≡ Some s → option_map outcome_view b ≡ Some t
    → Some m ≡ option_map json_length a → Some n ≡ option_map json_length b → on_both row a b ≡ row s t m n
by_lengths (Some x) (Some y) s t m n row e f g h = grind arith
by_lengths _ _ s t m n row e f g h = grind arith

pub length_held : (o : Option ValueOrError) (n : ℕ) → Some n ≡ option_map json_length o → n ≤ 2 ^ 62
length_held (Some x) n e = grind arith
length_held None n e = grind arith
