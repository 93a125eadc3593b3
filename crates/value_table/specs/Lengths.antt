-- Lengths of the JSON texts of values.
use Rattle.std.specs.Prelude.{ℕ, zero, suc, length}
use Rattle.value_store.specs.Value.{Value}
use Rattle.value_store.specs.Json.{json_text}
use Rattle.value_store.specs.Plain.{saturated}

-- the length of a value's JSON in bytes, capped at 2^64 - 1
abbrev pub json_length : Value → ℕ
json_length v = saturated (length (json_text v))

-- the number of commas between n items and m items that follow them
abbrev pub commas : ℕ → ℕ → ℕ
commas zero m = 0
commas (suc n) zero = 0
commas (suc n) (suc m) = 1
